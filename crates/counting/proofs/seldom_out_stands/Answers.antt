use Rattle.counting.proofs.Seldom.{seldom_holds}
use Rattle.counting.proofs.seldom_out_stands.Goals as goal

pub returns : goal.returns
returns c = seldom_holds
