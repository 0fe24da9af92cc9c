use Rattle.counting.proofs.Enough.{seldom_out_draw_holds}
use Rattle.counting.proofs.seldom_out_draw_stands.Goals as goal

pub returns : goal.returns
returns c = seldom_out_draw_holds
