-- What a hasher becomes by a piece that ends within the block that is being filled.
-- Assumes nothing.
use Rattle.std.proofs.Common.{◌≡◌, ℕ, ◌+◌, ◌%◌, ◌^◌, ◌<◌, ◌≤◌, cond, eqb, List, [], ◌∷◌, ◌++◌, length, take, drop, set, sym, refl, ap, ◌∙◌, inl, inr, arith}
use borrow.Rule.Slice.PartMut.{put_mid}
use Rattle.std.proofs.lemmas.List.{append_assoc, length-set, take-append-drop, take_more_set, drop-set-lt, drop-drop}
use Rattle.std.proofs.lemmas.Bool.{cases_eq, eq-eqb, ne_eqb, cond-true, cond-false}
use Rattle.sha256.specs.declared.state.State.{State}
use Rattle.sha256.specs.declared.stream.Hasher.{Hasher}
use Rattle.sha256.specs.Absorbed.{filled, one_more, absorbed}
use Rattle.sha256.specs.Sha256.{compressed}

-- bytes put over a list one by one, from the place i on
abbrev over : List ℕ → ℕ → List ℕ → List ℕ
over xs i [] = xs
over xs i (y ∷ ys) = over (set xs i y) (i + 1) ys

-- give what they give at once
over_is : (xs : List ℕ) (i k : ℕ) (ys : List ℕ) → k ≡ length ys → i + length ys ≤ length xs → over xs i ys ≡ put_mid i k xs ys
over_is xs i k [] e h = sym (take-append-drop i xs) ∙ ap (λ (n : ℕ). put_mid i n xs []) (sym e)
over_is xs i k (y ∷ ys) e h =
    let rest : List ℕ = drop (length ys) (drop (i + 1) (set xs i y)) in
    let place : i < length xs = omega arith in
    let fits : i + 1 + length ys ≤ length (set xs i y) = rw length-set (omega arith) in
    let end : i + 1 + length ys ≡ i + k = omega arith in
    let same : rest ≡ drop k (drop i xs) =
    ap (drop (length ys)) (drop-set-lt (i + 1) xs i y (omega arith)) ∙ drop-drop (length ys) (i + 1) xs ∙ ap (λ (n : ℕ). drop n xs) end
    ∙ sym (drop-drop k i xs)
    in
    over_is (set xs i y) (i + 1) (length ys) ys refl fits ∙ ap (λ (p : List ℕ). p ++ (ys ++ rest)) (take_more_set xs i y place)
    ∙ append_assoc (take i xs) (y ∷ []) (ys ++ rest)
    ∙ ap (λ (p : List ℕ). take i xs ++ (y ∷ ys ++ p)) same

-- the hasher with the bytes put in from the place i on
abbrev grown : State → List ℕ → ℕ → ℕ → List ℕ → Hasher
grown s pending i total piece =
    record {
      state = cond (eqb (i + length piece) 64) (compressed s (over pending i piece)) s;
      pending = over pending i piece;
      total = (total + length piece) % 2 ^ 64;
    }

eqb_same : (a b c d : ℕ) → (a ≡ b → c ≡ d) → (c ≡ d → a ≡ b) → eqb a b ≡ eqb c d
eqb_same a b c d f g =
    elim (cases_eq a b) [
      | inl e ↦ eq-eqb a b e ∙ sym (eq-eqb c d (f e))
      | inr n ↦ ne_eqb a b n ∙ sym (ne_eqb c d (λ e. n (g e)))
    ]

-- a hasher of which the parts are known
made : (h : Hasher) (s : State) (p : List ℕ) (t : ℕ) → h.state ≡ s → h.pending ≡ p → h.total ≡ t
    → h ≡ record { state = s; pending = p; total = t }
made h s p t e f g =
    ap (λ (x : State). record { state = x; pending = h.pending; total = h.total }) e
    ∙ ap (λ (x : List ℕ). record { state = s; pending = x; total = h.total }) f
    ∙ ap (λ (x : ℕ). record { state = s; pending = p; total = x }) g

absorbed_grown : (h : Hasher) (piece : List ℕ) → h.total < 2 ^ 64 → h.total % 64 + length piece ≤ 64
    → absorbed h piece ≡ grown h.state h.pending (h.total % 64) h.total piece
unfolding absorbed one_more
absorbed_grown h [] low fits =
    made h _ _ _ (sym (cond-false (eqb (h.total % 64 + 0) 64) _ _ (ne_eqb (h.total % 64 + 0) 64 (λ e. omega arith)))) refl (omega arith)
absorbed_grown h (y ∷ []) low fits =
    let end : eqb (h.total % 64) 63 ≡ eqb (h.total % 64 + 1) 64 =
    eqb_same (h.total % 64) 63 (h.total % 64 + 1) 64 (λ e. omega arith) (λ e. omega arith)
    in
    ap (λ b. record { state = cond b (compressed h.state (filled h y)) h.state; pending = filled h y; total = (h.total + 1) % 2 ^ 64 }) end
absorbed_grown h (y ∷ z ∷ zs) low fits =
    let short : h.total % 64 ≡ 63 → ⊥ = λ e. omega arith in
    let same : (one_more h y).state ≡ h.state = cond-false (eqb (h.total % 64) 63) _ _ (ne_eqb (h.total % 64) 63 short) in
    let place : (h.total + 1) % 2 ^ 64 % 64 ≡ h.total % 64 + 1 = omega arith in
    let end : h.total % 64 + 1 + length (z ∷ zs) ≡ h.total % 64 + length (y ∷ z ∷ zs) = omega arith in
    let count : ((h.total + 1) % 2 ^ 64 + length (z ∷ zs)) % 2 ^ 64 ≡ (h.total + length (y ∷ z ∷ zs)) % 2 ^ 64 = omega arith in
    absorbed_grown (one_more h y) (z ∷ zs) (omega arith) (omega (arith, place))
    ∙ ap (λ (s : State). grown s (filled h y) ((h.total + 1) % 2 ^ 64 % 64) ((h.total + 1) % 2 ^ 64) (z ∷ zs)) same
    ∙ ap (λ (i : ℕ). grown h.state (filled h y) i ((h.total + 1) % 2 ^ 64) (z ∷ zs)) place
    ∙ made (grown h.state (filled h y) (h.total % 64 + 1) ((h.total + 1) % 2 ^ 64) (z ∷ zs)) _ _ _
    (ap (λ (n : ℕ). cond (eqb n 64) (compressed h.state (over (filled h y) (h.total % 64 + 1) (z ∷ zs))) h.state) end) refl count

-- the piece as the code puts it in: over k bytes of the block, by ys, which is the piece
module _ (h : Hasher) (piece ys : List ℕ) (k : ℕ) (low : h.total < 2 ^ 64) (size : length h.pending ≡ 64)
    (fits : h.total % 64 + length piece ≤ 64) (same : ys ≡ piece) (width : k ≡ length piece) where
  block : over h.pending (h.total % 64) piece ≡ put_mid (h.total % 64) k h.pending ys
  block =
      over_is h.pending (h.total % 64) k piece width (omega arith)
      ∙ ap (λ (p : List ℕ). put_mid (h.total % 64) k h.pending p) (sym same)

  -- the block is whole
  pub piece_whole : (r : State) → h.total % 64 + length piece ≡ 64 → r ≡ compressed h.state (put_mid (h.total % 64) k h.pending ys)
      → record { state = r; pending = put_mid (h.total % 64) k h.pending ys; total = (h.total + length piece) % 2 ^ 64 } ≡ absorbed h piece
  piece_whole r whole e =
      sym
      (absorbed_grown h piece low fits
      ∙ made (grown h.state h.pending (h.total % 64) h.total piece) r (put_mid (h.total % 64) k h.pending ys) ((h.total + length piece) % 2 ^ 64)
      (cond-true (eqb (h.total % 64 + length piece) 64) _ _ (eq-eqb _ 64 whole) ∙ ap (compressed h.state) block ∙ sym e) block refl)

  -- the block is not whole yet
  pub piece_short : (h.total % 64 + length piece ≡ 64 → ⊥)
      → record { state = h.state; pending = put_mid (h.total % 64) k h.pending ys; total = (h.total + length piece) % 2 ^ 64 } ≡ absorbed h piece
  piece_short short =
      sym
      (absorbed_grown h piece low fits
      ∙ made (grown h.state h.pending (h.total % 64) h.total piece) h.state (put_mid (h.total % 64) k h.pending ys) ((h.total + length piece) % 2 ^ 64)
      (cond-false (eqb (h.total % 64 + length piece) 64) _ _ (ne_eqb _ 64 short)) block refl)
