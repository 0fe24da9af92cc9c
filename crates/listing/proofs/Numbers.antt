-- The number of a new slot put into the index. Assumes nothing.
use Rattle.std.proofs.lemmas.Grind.{common_steps}
use Rattle.std.proofs.Common.{◌≡◌, ℕ, ◌+◌, ◌<◌, ◌≤◌, List, length, get_or, take, drop, arith}
use Rattle.std.specs.List.{insert, AllByRecursion}
use Rattle.std.proofs.lemmas.List.{get_or-take, length-take-le, get_or_append_left}
use Rattle.std.proofs.ByRecursion.{All-append, All-take, All-drop, All-get_or, All-from_get_or}
use Rattle.entries.specs.Entry.{inserted_number}

-- what holds of the numbers below a count holds of the front of that length
pub all_front : (P : ℕ → Type 0) (index : List ℕ) (count : ℕ) → count ≤ length index → ((i : ℕ) → i < count → P (get_or index i 0)) → AllByRecursion P (take count index)
all_front P index count l h =
    let n : length (take count index) ≡ count = length-take-le count index l in
    All-from_get_or P (take count index) 0 (λ i m. rw (get_or-take count index i 0 (omega arith)) (h i (omega arith)))

module _ (index : List ℕ) (count at : ℕ) (room : count < length index) (low : at ≤ count) where
  pub take_numbers : take (count + 1) (inserted_number index count at) ≡ insert (take count index) at count
  take_numbers = grind (arith, common_steps)

  pub length_numbers : length (inserted_number index count at) ≡ length index
  length_numbers = grind (arith, common_steps)

  -- all numbers of the index are those of slots in use, the new one among them
  pub numbers_in_use : ((i : ℕ) → i < count → get_or index i 0 < count) → (i : ℕ) → i < count + 1 → get_or (inserted_number index count at) i 0 < count + 1
  numbers_in_use h i l =
      let P : ℕ → Type 0 = λ k. k < count + 1 in
      let old : AllByRecursion P (take count index) = all_front P index count (omega arith) (λ k m. omega (arith, h k m)) in
      let all : AllByRecursion P (insert (take count index) at count) = All-append P _ _ (All-take P at (take count index) old) (omega arith, All-drop P at (take count index) old) in
      let e : get_or (inserted_number index count at) i 0 ≡ get_or (insert (take count index) at count) i 0 =
      get_or_append_left (insert (take count index) at count) (drop (count + 1) index) 0 i (grind (arith, common_steps)) in
      omega (arith, e, All-get_or P (insert (take count index) at count) i 0 (grind (arith, common_steps)) all)
