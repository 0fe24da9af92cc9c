use Rattle.std.proofs.Common.{◌≡◌, length, None}
use Rattle.protocol.specs.Check.{first_of, opened_fault}
use Rattle.protocol.proofs.ranges.check_marks.Given as goal

abbrev pub invariant-loop-party : goal.invariant-loop-party
invariant-loop-party l = first_of (opened_fault l.layout.bytes.now) (length l.yielded) ≡ None
