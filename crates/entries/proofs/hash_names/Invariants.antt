use Rattle.std.proofs.Common.{◌≡◌, map, take}
use Rattle.sha256.specs.Absorbed.{fresh, absorbed}
use Rattle.entries.specs.Rows.{name_in, packed_rows}
use Rattle.entries.proofs.hash_names.Given as goal

abbrev pub invariant-loop-slot : goal.invariant-loop-slot
invariant-loop-slot l = l.hasher ≡ absorbed fresh (packed_rows (map (name_in l.slots) (take l.slot-index l.numbers)))
