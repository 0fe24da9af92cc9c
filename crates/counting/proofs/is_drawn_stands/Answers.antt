use Rattle.counting.proofs.Draws.{is_drawn_holds}
use Rattle.counting.proofs.is_drawn_stands.Goals as goal

pub returns : goal.returns
returns c = is_drawn_holds
