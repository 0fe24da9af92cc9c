use Rattle.std.proofs.Common.{◌≡◌, length, None}
use Rattle.protocol.specs.Check.{first_of, party_fault, hash_of}
use Rattle.protocol.proofs.openings.check_openings.Given as goal

abbrev pub invariant-loop-party : goal.invariant-loop-party
invariant-loop-party l = first_of (party_fault (hash_of l.layout.bytes.now) l.layout.bytes.now) (length l.yielded) ≡ None
