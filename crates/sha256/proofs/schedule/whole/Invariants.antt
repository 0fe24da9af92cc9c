use Rattle.std.proofs.Common.{◌≡◌, ◌+◌, length, take}
use Rattle.sha256.specs.Schedule.{schedule}
use Rattle.sha256.proofs.schedule.whole.Given as goal

abbrev pub invariant-loop-t : goal.invariant-loop-t
invariant-loop-t l = (take (l.t + 16) l.words ≡ schedule l.t l.block) × (length l.words ≡ 64)
