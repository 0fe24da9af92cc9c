use Rattle.counting.proofs.PlacesDrawn.{fair_place_draw_holds}
use Rattle.counting.proofs.fair_place_draw_stands.Goals as goal

pub returns : goal.returns
returns c = fair_place_draw_holds
