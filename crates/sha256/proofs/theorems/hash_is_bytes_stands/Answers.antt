use Rattle.sha256.proofs.Laws.{length_sha256, sha256_below}
use Rattle.sha256.proofs.theorems.hash_is_bytes_stands.Goals as goal

pub returns : goal.returns
returns c = λ m. (length_sha256 m, sha256_below m)
