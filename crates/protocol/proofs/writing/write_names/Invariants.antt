use Rattle.std.proofs.Common.{◌≡◌, ◌++◌, map, take, vec_items}
use Rattle.entries.specs.Rows.{name_in, packed_rows}
use Rattle.protocol.proofs.writing.write_names.Given as goal

abbrev pub invariant-loop-number : goal.invariant-loop-number
invariant-loop-number l = vec_items l.out ≡ (vec_items l.initial.out ++ packed_rows (map (name_in l.names.slots.now) (take l.number l.names.index.now)))
