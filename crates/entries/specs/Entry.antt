-- An entry: what it answers, and what it leaves in memory. Assumes nothing.
use Rattle.std.specs.Prelude.{ℕ, ◌+◌, ◌*◌, cond, ◌||◌, List, ◌++◌, length, take, drop, Some, None, Ok, Err, Option, Result, nat_le, nat_lt}
use Rattle.std.proofs.Math.Seq.{paste}
use Rattle.std.specs.List.{insert}
use Rattle.refusals.specs.declared.Lent.TheVariants.{List as TheList}
use Rattle.refusals.specs.declared.Refusal.{Refusal}
use Rattle.refusals.specs.declared.Refusal.TheVariants.{NoRoom}
use Rattle.entries.specs.Rows.{packed, slot_size}
use Rattle.entries.specs.Place.{place_for}

-- where the next slot begins, if the slots and the index have room
abbrev pub slot_for : ℕ → ℕ → ℕ → Option ℕ
slot_for bytes numbers count = cond (nat_lt bytes (slot_size * count + slot_size) || nat_le numbers count) None (Some (slot_size * count))

-- the number of the new slot, put in at a place of the index
abbrev pub inserted_number : List ℕ → ℕ → ℕ → List ℕ
inserted_number index count at = insert (take count index) at count ++ drop (count + 1) index

pub record Entered : Type 0 where
  pub answer : Result ℕ Refusal
  pub slots : List ℕ
  pub index : List ℕ

abbrev pub entered_into : List ℕ → List ℕ → ℕ → List ℕ → ℕ → Option ℕ → Entered
entered_into slots index count x at None = record { answer = Err (NoRoom TheList); slots = slots; index = index }
entered_into slots index count x at (Some slot) =
    record {
      answer = Ok (count + 1);
      slots = paste slots slot (packed x) (1 + length x);
      index = inserted_number index count at;
    }

abbrev pub entered_at : List ℕ → List ℕ → ℕ → List ℕ → Result ℕ Refusal → Entered
entered_at slots index count x (Err why) = record { answer = Err why; slots = slots; index = index }
entered_at slots index count x (Ok at) = entered_into slots index count x at (slot_for (length slots) (length index) count)

-- an entry into a list of `count` names: the new number of names, or a refusal, which changes nothing
abbrev pub entered : List ℕ → List ℕ → ℕ → List ℕ → Entered
entered slots index count x = entered_at slots index count x (place_for slots index count x)
