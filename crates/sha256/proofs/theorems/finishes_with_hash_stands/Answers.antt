use Rattle.sha256.proofs.Laws.{finished_absorbed}
use Rattle.sha256.proofs.theorems.finishes_with_hash_stands.Goals as goal

pub returns : goal.returns
returns c = finished_absorbed
