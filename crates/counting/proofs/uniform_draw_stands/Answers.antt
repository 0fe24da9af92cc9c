use Rattle.counting.proofs.Draws.{uniform_draw_holds}
use Rattle.counting.proofs.uniform_draw_stands.Goals as goal

pub returns : goal.returns
returns c = uniform_draw_holds
