use Rattle.counting.proofs.Draws.{alone_holds}
use Rattle.counting.proofs.alone_stands.Goals as goal

pub returns : goal.returns
returns c = alone_holds
