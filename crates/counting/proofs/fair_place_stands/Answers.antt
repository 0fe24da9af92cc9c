use Rattle.counting.proofs.Places.{fair_place_holds}
use Rattle.counting.proofs.fair_place_stands.Goals as goal

pub returns : goal.returns
returns c = fair_place_holds
