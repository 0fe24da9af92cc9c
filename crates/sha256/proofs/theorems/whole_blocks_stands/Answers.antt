use Rattle.std.proofs.Common.{arith}
use Rattle.std.proofs.lemmas.List.{length-append, length-replicate}
use Rattle.sha256.specs.Padding.{padding}
use Rattle.sha256.proofs.theorems.whole_blocks_stands.Goals as goal

pub returns : goal.returns
unfolding padding
returns c = λ m. simp (length-append, length-replicate) (omega arith)
