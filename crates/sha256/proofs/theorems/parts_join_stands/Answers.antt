use Rattle.sha256.proofs.Laws.{absorbed_append}
use Rattle.sha256.proofs.theorems.parts_join_stands.Goals as goal

pub returns : goal.returns
returns c = absorbed_append
