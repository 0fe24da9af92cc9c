use Rattle.counting.proofs.Draws.{fair_renamed_holds}
use Rattle.counting.proofs.fair_renamed_stands.Goals as goal

pub returns : goal.returns
returns c = fair_renamed_holds
