-- A number put behind a row, and turned to its place. Assumes nothing.
use Rattle.std.proofs.lemmas.Grind.{common_steps}
use Rattle.std.proofs.Common.{◌≡◌, ℕ, ◌+◌, ◌-◌, ◌<◌, ◌≤◌, List, [], ◌∷◌, ◌++◌, length, take, drop, set, sym, ap, ◌∙◌, append_assoc, arith}
use borrow.Rule.Slice.PartMut.{put_mid}
use Rattle.std.proofs.lemmas.List.{take_more_set, drop-set-add, length-drop}
use Rattle.std.proofs.lemmas.Slice.{between_is}
use Rattle.entries.specs.Entry.{inserted_number}

-- the last of a row, and then the others
abbrev turned : List ℕ → List ℕ
turned xs = drop (length xs - 1) xs ++ take (length xs - 1) xs

turned_push : (xs : List ℕ) (y : ℕ) → turned (xs ++ y ∷ []) ≡ y ∷ xs
turned_push xs y = grind (arith, common_steps)

pub put_in : (index last : List ℕ) (count at : ℕ) → at ≤ count → count < length index
    → last ≡ turned (take (count + 1 - at) (drop at (set index count count)))
    → put_mid at (count + 1 - at) (set index count count) last ≡ inserted_number index count at
put_in index last count at l r e =
    let front : List ℕ = take count index in
    let row : List ℕ = set index count count in
    let j : at + (count - at) ≡ count = omega arith in
    let k : count + 1 - at ≡ count - at + 1 = omega arith in
    let placed : drop at row ≡ set (drop at index) (count - at) count =
    ap (λ (i : ℕ). drop at (set index i count)) (sym j) ∙ drop-set-add at index (count - at) count in
    let part : take (count + 1 - at) (drop at row) ≡ drop at front ++ count ∷ [] =
    simp (placed, k, sym (between_is index at count)) (take_more_set (drop at index) (count - at) count (omega (arith, length-drop at index))) in
    let before : take at row ≡ take at front = grind (arith, common_steps) in
    let behind : drop (count + 1 - at) (drop at row) ≡ drop (count + 1) index = grind (arith, common_steps) in
    let now : last ≡ count ∷ drop at front = e ∙ (ap turned part ∙ turned_push (drop at front) count) in
    simp (before, behind, now) (sym (append_assoc (take at front) (count ∷ drop at front) (drop (count + 1) index)))
