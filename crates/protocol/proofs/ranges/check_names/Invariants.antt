use Rattle.std.proofs.Common.{◌≡◌, length, None}
use Rattle.protocol.specs.Check.{first_of, name_before, name_fault}
use Rattle.protocol.proofs.ranges.check_names.Given as goal

abbrev pub invariant-loop-name : goal.invariant-loop-name
invariant-loop-name l =
    record {
      before : l.before ≡ name_before l.layout.bytes.now (length l.yielded);
      none : first_of (name_fault l.layout.bytes.now) (length l.yielded) ≡ None;
    }
