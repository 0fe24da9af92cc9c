use Rattle.std.proofs.Common.{length}
use Rattle.hash_messages.proofs.hashes.Given as goal

abbrev pub decreases-loop-left : goal.decreases-loop-left
decreases-loop-left l = length l.left
