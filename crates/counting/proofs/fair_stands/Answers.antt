use Rattle.counting.proofs.Fairness.{fair_holds}
use Rattle.counting.proofs.fair_stands.Goals as goal

pub returns : goal.returns
returns c = fair_holds
