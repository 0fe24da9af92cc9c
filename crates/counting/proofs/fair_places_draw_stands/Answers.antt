use Rattle.counting.proofs.PlacesDrawn.{fair_places_draw_holds}
use Rattle.counting.proofs.fair_places_draw_stands.Goals as goal

pub returns : goal.returns
returns c = fair_places_draw_holds
