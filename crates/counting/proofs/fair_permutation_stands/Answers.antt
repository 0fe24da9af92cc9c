use Rattle.counting.proofs.Arrangements.{fair_permutation_holds}
use Rattle.counting.proofs.fair_permutation_stands.Goals as goal

pub returns : goal.returns
returns c = fair_permutation_holds
