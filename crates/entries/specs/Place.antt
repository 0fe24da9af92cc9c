-- Where a new name goes, found by halving. Assumes nothing.
use Rattle.std.specs.Prelude.{ℕ, zero, suc, ◌+◌, ◌-◌, ◌/◌, cond, ◌||◌, List, [], length, Some, None, Ok, Err, Option, Result, ◌==◌, nat_le, nat_lt, slice_index_or}
use Rattle.std.specs.declared.cmp.Ordering.TheVariants.{Less, Equal, Greater}
use Rattle.std.specs.declared.cmp.Ordering.{Ordering}
use Rattle.refusals.specs.declared.Refusal.{Refusal}
use Rattle.refusals.specs.declared.Refusal.TheVariants.{NameLength, NameTaken}
use Rattle.entries.specs.Rows.{row_order, listed, most_names, longest_name}

abbrev pub ranked : {X : Type 0} → Ordering → X → X → X → X
ranked Less a b c = a
ranked Equal a b c = b
ranked Greater a b c = c

abbrev pub middle : ℕ → ℕ → ℕ
middle low high = low + (high - low) / 2

-- the place from low up to high at which the row x goes in, or none where it is there; f bounds the halvings
unfoldable pub place_between : ℕ → ℕ → ℕ → List (List ℕ) → List ℕ → Option ℕ
place_between zero low high ns x = Some low
place_between (suc f) low high ns x =
    cond (nat_lt low high)
    (ranked (row_order (slice_index_or ns (middle low high) []) x) (place_between f (middle low high + 1) high ns x) None (place_between f low (middle low high) ns x))
    (Some low)

unfoldable pub place : List (List ℕ) → List ℕ → Option ℕ
place ns x = place_between (length ns) 0 (length ns) ns x

abbrev pub or_taken : Option ℕ → Result ℕ Refusal
or_taken None = Err NameTaken
or_taken (Some at) = Ok at

-- a new name: of 1 to 64 bytes, not there yet, and not one too many
abbrev pub place_for : List ℕ → List ℕ → ℕ → List ℕ → Result ℕ Refusal
place_for slots index count x =
    cond (length x == 0 || nat_lt longest_name (length x)) (Err (NameLength (length x)))
    (cond (nat_le most_names count) (Err NameTaken) (or_taken (place (listed slots index count) x)))
