use Rattle.counting.proofs.Enough.{enough_holds}
use Rattle.counting.proofs.enough_stands.Goals as goal

pub returns : goal.returns
returns c = enough_holds
