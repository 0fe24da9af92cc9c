use Rattle.std.proofs.Common.{◌≡◌}
use Rattle.protocol.proofs.names.Name.of.Given as goal

abbrev pub invariant-loop-k : goal.invariant-loop-k
invariant-loop-k l = (l.name.bytes.now ≡ l.bytes) × (l.name.number ≡ l._k)
