use Rattle.counting.proofs.Draws.{fair_draw_holds}
use Rattle.counting.proofs.fair_draw_stands.Goals as goal

pub returns : goal.returns
returns c = fair_draw_holds
