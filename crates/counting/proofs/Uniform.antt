-- The rows with a property of the order are those of one order, times the orders with that property. Assumes nothing.
use Rattle.std.proofs.Common.{◌≡◌, ℕ, zero, suc, ◌+◌, ◌-◌, ◌*◌, ◌^◌, ◌<◌, ◌≤◌, Bool, true, false, cond, ◌⊎◌, List, [], ◌∷◌, length, sym, refl, ap, ◌∙◌, subst, ap₂, inl, inr, mul_assoc, add-mul, mul-zero, zero-mul, mul-one}
use native.Mathlib.Nat.{le_dest}
use Rattle.counting.proofs.Fairness.{count_short, count_draw, order_draw}
use Rattle.counting.proofs.Parties.{others}
use Rattle.counting.proofs.Rows.{count_same, count_false, count_added}
use Rattle.counting.proofs.Totals.{total_ext, total_mul}
use Rattle.counting.specs.Counting.{count, total, tally, same_row, is_order, gives}
use Rattle.counting.specs.Rows.{add_bits}
use Rattle.order.specs.Orders.{Order, some, none, put, next, order, Valid}
use Rattle.std.proofs.lemmas.Bool.{cases_lt}
use Rattle.uniform.specs.Bits.{Bits}
use Rattle.uniform.specs.Draws.{width, Drawn, out, draw}

-- the count of rows with a property of what is drawn that is not "out", by the first draw
none_short : (f n b : ℕ) (F : Drawn → Bool) → F out ≡ false → b < width n → count b (λ bs. F (draw (suc f) n bs)) ≡ 0
none_short f n b F e h = count_short f n b F h ∙ ap (λ p. count b (λ bs. p)) e ∙ count_false b

gives_put : (i : ℕ) (G : List ℕ → Bool) (o : Order) → gives G (put i o) ≡ gives (λ ks. G (i ∷ ks)) o
unfolding gives put
gives_put i G (some xs) = refl
gives_put i G none = refl

regroup : (r s x t : ℕ) → r * t + s * (x * t) ≡ (r + s * x) * t
regroup r s x t = simp (add-mul, mul_assoc)

all_or_none : (b : ℕ) (p : Bool) → count b (λ r. p) ≡ count b (λ r. true) * cond p 1 0
all_or_none b true = sym (mul-one (count b (λ r. true)))
all_or_none b false = count_false b ∙ sym (mul-zero (count b (λ r. true)))

module _ (m k : ℕ) (ks : List ℕ) (g : List ℕ → Order) (G : List ℕ → Bool) (hk : k < suc m)
    (ih : (H : List ℕ → Bool) (b : ℕ) → count b (λ r. gives H (g r)) ≡ count b (λ r. is_order ks (g r)) * tally m H) where
  abbrev Even : ℕ → ℕ → Type 0
  Even f b = count b (λ r. gives G (next g (draw f (suc m) r))) ≡ count b (λ r. is_order (k ∷ ks) (next g (draw f (suc m) r))) * tally (suc m) G

  by_first : (b : ℕ) → total 0 (suc m) (λ i. count b (λ r. gives G (put i (g r)))) ≡ count b (λ r. is_order ks (g r)) * tally (suc m) G
  unfolding tally
  by_first b =
      total_ext 0 (suc m) (λ i. count b (λ r. gives G (put i (g r)))) (λ i. count b (λ r. is_order ks (g r)) * tally m (λ xs. G (i ∷ xs)))
      (λ i l. count_same b (λ r. gives G (put i (g r))) (λ r. gives (λ xs. G (i ∷ xs)) (g r)) (λ r e. gives_put i G (g r)) ∙ ih (λ xs. G (i ∷ xs)) b)
      ∙ total_mul 0 (suc m) (count b (λ r. is_order ks (g r))) (λ i. tally m (λ xs. G (i ∷ xs)))

  even_draw : (f b : ℕ) → Even f b
  unfolding draw next gives is_order
  even_draw zero b = count_false b ∙ sym (zero-mul (tally (suc m) G)) ∙ ap (λ x. x * tally (suc m) G) (sym (count_false b))
  even_draw (suc f) b = go (cases_lt b (width (suc m))) (even_draw f)
    where
      go : (b < width (suc m)) ⊎ (width (suc m) ≤ b) → ((c : ℕ) → Even f c) → Even (suc f) b
      go (inl h) rest =
          none_short f (suc m) b (λ d. gives G (next g d)) refl h ∙ sym (zero-mul (tally (suc m) G))
          ∙ ap (λ x. x * tally (suc m) G) (sym (none_short f (suc m) b (λ d. is_order (k ∷ ks) (next g d)) refl h))
      go (inr h) rest = let c = le_dest h in subst (Even (suc f)) c.1
          (count_draw f (suc m) c.0 (λ d. gives G (next g d))
          ∙ ap₂ (λ x y. x + (2 ^ width (suc m) - suc m) * y) (by_first c.0) (rest c.0)
          ∙ regroup (count c.0 (λ r. is_order ks (g r))) (2 ^ width (suc m) - suc m)
          (count c.0 (λ r. is_order (k ∷ ks) (next g (draw f (suc m) r)))) (tally (suc m) G)
          ∙ ap (λ x. x * tally (suc m) G) (sym (order_draw f (suc m) c.0 k ks g hk)))

pub uniform_order : (n : ℕ) (ks : List ℕ) → Valid n ks → (G : List ℕ → Bool) (b : ℕ) → count b (λ r. gives G (order n r)) ≡ count b (λ r. is_order ks (order n r)) * tally n G
unfolding Valid order
uniform_order zero [] v G b = unfold gives is_order tally same_row in all_or_none b (G [])
uniform_order zero (k ∷ ks) v G b = absurd v
uniform_order (suc n) [] v G b = absurd v
uniform_order (suc n) (k ∷ ks) v G b =
    turn (gives G) ∙ even_draw n k ks (λ r. order n r) G v.0 (uniform_order n ks v.1) (suc b) b ∙ ap (λ x. x * tally (suc n) G) (sym (turn (is_order (k ∷ ks))))
  where
    turn : (F : Order → Bool) → count b (λ bs. F (order (suc n) bs)) ≡ count b (λ bs. F (next (λ r. order n r) (draw (suc b) (suc n) bs)))
    turn F = count_same b (λ bs. F (order (suc n) bs)) (λ bs. F (next (λ r. order n r) (draw (suc b) (suc n) bs)))
        (λ bs e. ap (λ x. F (next (λ r. order n r) (draw (suc x) (suc n) bs))) e)

pub uniform_holds : (n b : ℕ) (others : List ℕ) (ks : List ℕ) (G : List ℕ → Bool) → length others ≡ b → Bits others → Valid n ks →
    count b (λ mine. gives G (order n (add_bits others mine))) ≡ count b (λ mine. is_order ks (order n (add_bits others mine))) * tally n G
uniform_holds n b others ks G e h v =
    count_added b others (λ r. gives G (order n r)) e h ∙ uniform_order n ks v G b ∙
    ap (λ x. x * tally n G) (sym (count_added b others (λ r. is_order ks (order n r)) e h))
