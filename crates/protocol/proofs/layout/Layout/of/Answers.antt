use Rattle.std.proofs.Common.{rules}
use Rattle.protocol.specs.Layout.{name_count, length_at, bits_length, party_count, party_at, order_at}
use Rattle.protocol.proofs.layout.Layout.of.Goals as goal

pub invariant_of-first : goal.invariant_of-first
unfolding name_count length_at bits_length party_at
invariant_of-first c = search rules

pub invariant_of-result : goal.invariant_of-result
unfolding name_count length_at party_count order_at
invariant_of-result c = search rules
