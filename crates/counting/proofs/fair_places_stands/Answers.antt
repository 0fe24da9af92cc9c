use Rattle.counting.proofs.Places.{fair_places_holds}
use Rattle.counting.proofs.fair_places_stands.Goals as goal

pub returns : goal.returns
returns c = fair_places_holds
