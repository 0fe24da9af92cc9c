use Rattle.std.proofs.Common.{append_assoc, rules}
use Rattle.std.proofs.lemmas.List.FromFn.{length-map-range_with_len}
use Rattle.protocol.proofs.write.Goals as goal

pub returns : goal.returns
returns c = search (rules, append_assoc, length-map-range_with_len)
