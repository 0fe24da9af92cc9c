-- A part of a list of which another part was written over: a part that does not meet it stays, and one within it is of what was written. Assumes nothing.
use Rattle.std.proofs.lemmas.Grind.{common_steps}
use Rattle.std.proofs.Common.{◌≡◌, ℕ, ◌+◌, ◌-◌, ◌<◌, ◌≤◌, ◌⊎◌, List, ◌++◌, length, get_or, take, drop, sym, ap, ◌∙◌, ⊎_elim, arith}
use lib.Seq.{paste}
use Rattle.std.proofs.lemmas.List.{take-take, take-append-le, drop-take, drop-drop, drop_at, drop-append-le, length-take-le, length-drop}
use Rattle.std.proofs.lemmas.List.Edits.{paste_all, drop-paste}

module _ {X : Type 0} (d : List X) (at : ℕ) (s : List X) (m : ℕ) (whole : m ≡ length s) (fits : at + m ≤ length d) where
  pub part_before : (a n : ℕ) → a + n ≤ at → take n (drop a (paste d at s m)) ≡ take n (drop a d)
  part_before a n h =
      let l : length (take at d) ≡ at = length-take-le at d (omega arith) in
      sym (drop-take a n (paste d at s m))
      ∙ (ap (λ (z : List X). drop a (take (a + n) z)) (paste_all d at s m whole)
      ∙ (ap (drop a) (take-append-le (a + n) (take at d) (s ++ drop (at + m) d) (omega arith) ∙ take-take (a + n) at d h)
      ∙ drop-take a n d))

  pub part_behind : (a n : ℕ) → at + m ≤ a → take n (drop a (paste d at s m)) ≡ take n (drop a d)
  part_behind a n h =
      let e : at + m + (a - (at + m)) ≡ a = omega arith in
      let far : (z : List X) → drop a z ≡ drop (a - (at + m)) (drop (at + m) z) = λ (z : List X). ap (λ (k : ℕ). drop k z) (sym e) ∙ sym (drop-drop (a - (at + m)) (at + m) z) in
      ap (take n) (far (paste d at s m) ∙ (ap (drop (a - (at + m))) (drop-paste d at s m (omega arith) (omega arith)) ∙ sym (far d)))

  pub part_apart : (a n : ℕ) → (a + n ≤ at) ⊎ (at + m ≤ a) → take n (drop a (paste d at s m)) ≡ take n (drop a d)
  part_apart a n h = ⊎_elim (part_before a n) (part_behind a n) h

  pub part_inside : (a i n : ℕ) → a ≡ at + i → i + n ≤ m → take n (drop a (paste d at s m)) ≡ take n (drop i s)
  part_inside a i n e h =
      let l : length (take at d) ≡ at = length-take-le at d (omega arith) in
      let within : n ≤ length (drop i s) = simp length-drop (omega arith) in
      ap (take n)
      (ap (λ (k : ℕ). drop k (paste d at s m)) e
      ∙ (sym (drop-drop i at (paste d at s m))
      ∙ (ap (λ (z : List X). drop i (drop at z)) (paste_all d at s m whole)
      ∙ (ap (drop i) (drop_at (take at d) (s ++ drop (at + m) d) at l) ∙ drop-append-le i s (drop (at + m) d) (omega arith)))))
      ∙ take-append-le n (drop i s) (drop (at + m) d) within

  pub element_apart : (k : ℕ) (y : X) → (k + 1 ≤ at) ⊎ (at + m ≤ k) → get_or (paste d at s m) k y ≡ get_or d k y
  element_apart k y h = grind (arith, common_steps)

  pub element_inside : (k i : ℕ) (y : X) → k ≡ at + i → i < m → get_or (paste d at s m) k y ≡ get_or s i y
  element_inside k i y e h = grind (arith, common_steps)
