-- The names of a written protocol, as they are read again. Assumes nothing.
use Rattle.std.proofs.Common.{◌≡◌, ℕ, zero, suc, ◌+◌, ◌<◌, ◌≤◌, List, [], ◌++◌, length, get_or, drop, refl, ◌∙◌, append_assoc, add-one, arith}
use Rattle.std.proofs.lemmas.List.{drop_more}
use Rattle.entries.specs.Rows.{packed, packed_rows}
use Rattle.protocol.specs.Layout.{name_at, name_of}
use Rattle.protocol.proofs.Tails.{tail_first, tail_drop, tail_part, tail_on}

module _ (B : List ℕ) (names : List (List ℕ)) (post : List ℕ) (start : drop 2 B ≡ packed_rows names ++ post) where
  -- a name and what stands behind it
  open_up : (k : ℕ) → k < length names → drop (name_at B k) B ≡ packed_rows (drop k names) ++ post
      → drop (name_at B k) B ≡ packed (get_or names k []) ++ (packed_rows (drop (k + 1) names) ++ post)
  open_up k h t =
      t ∙ rw (drop_more names k [] h) (append_assoc (packed (get_or names k [])) (packed_rows (drop (k + 1) names)) post)

  pub name_tail : (k : ℕ) → k ≤ length names → drop (name_at B k) B ≡ packed_rows (drop k names) ++ post
  unfolding name_at
  name_tail zero h = start
  name_tail (suc k) h =
      let x : List ℕ = get_or names k [] in
      let t : drop (name_at B k) B ≡ packed x ++ (packed_rows (drop (k + 1) names) ++ post) = open_up k (omega arith) (name_tail k (omega arith)) in
      let f : get_or B (name_at B k) 0 ≡ length x = tail_first B (name_at B k) _ t in
      let s : name_at B k + 1 + get_or B (name_at B k) 0 ≡ name_at B k + (1 + length x) = omega arith in
      rw (s, ← add-one k) (tail_on B (name_at B k) (packed x) (packed_rows (drop (k + 1) names) ++ post) (1 + length x) t (omega arith))

  module _ (k : ℕ) (h : k < length names) where
    here : drop (name_at B k) B ≡ packed (get_or names k []) ++ (packed_rows (drop (k + 1) names) ++ post)
    here = open_up k h (name_tail k (omega arith))

    pub name_length : get_or B (name_at B k) 0 ≡ length (get_or names k [])
    name_length = tail_first B (name_at B k) _ here

    pub name_is : name_of B k ≡ get_or names k []
    name_is =
        rw name_length
        (tail_part B (name_at B k + 1) (get_or names k []) (packed_rows (drop (k + 1) names) ++ post) (length (get_or names k [])) (tail_drop B (name_at B k) _ here 1) refl)
