use Rattle.counting.proofs.Numbers.{fair_number_holds}
use Rattle.counting.proofs.fair_number_stands.Goals as goal

pub returns : goal.returns
returns c = fair_number_holds
