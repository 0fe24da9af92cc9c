-- The memory of a draw: for 2,000 names, and for parties of 8,192 bytes. Assumes nothing.
use Rattle.std.specs.Prelude.{ℕ, ◌*◌, replicate, vec_items}
use Rattle.ceremony.specs.Model.{Held}
use Rattle.runs.specs.declared.room.Room.{Room}

-- all zeros
unfoldable pub room_for : ℕ → Held
room_for parties = record { slots = replicate 130000 0; index = replicate 2000 0; seals = replicate (8257 * parties) 0; bits = replicate 8192 0; order = replicate 2000 0 }

abbrev pub contents : Room → Held
contents m = record { slots = vec_items m.slots; index = vec_items m.index; seals = vec_items m.seals; bits = vec_items m.bits; order = vec_items m.order }
