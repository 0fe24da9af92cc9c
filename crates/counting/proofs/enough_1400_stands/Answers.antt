use Rattle.counting.proofs.Enough.{enough_1400_holds}
use Rattle.counting.proofs.enough_1400_stands.Goals as goal

pub returns : goal.returns
returns c = enough_1400_holds
