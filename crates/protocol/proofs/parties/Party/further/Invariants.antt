use Rattle.std.proofs.Common.{◌≡◌, ◌+◌}
use Rattle.protocol.proofs.parties.Party.further.Given as goal

abbrev pub invariant-loop-k : goal.invariant-loop-k
invariant-loop-k l = (l.party.bytes.now ≡ l.self.bytes.now) × (l.party.number ≡ l.self.number + l._k)
