use Rattle.std.proofs.Common.{◌≡◌, length}
use Rattle.sha256.specs.Absorbed.{absorbed}
use Rattle.sha256.proofs.stream.Hasher.update.Given as goal

-- what is left still has to be taken in
abbrev pub invariant-loop-left : goal.invariant-loop-left
invariant-loop-left l = absorbed l.self l.left ≡ absorbed l.fn.self l.fn.part

abbrev pub decreases-loop-left : goal.decreases-loop-left
decreases-loop-left l = length l.left
