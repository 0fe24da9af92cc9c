-- As many rows give one order as any other. Assumes nothing.
use Rattle.std.proofs.Common.{◌≡◌, ℕ, zero, suc, ◌+◌, ◌-◌, ◌*◌, ◌^◌, ◌<◌, ◌≤◌, Bool, true, false, cond, ◌&&◌, eqb, ltb, ◌⊎◌, List, [], ◌∷◌, length, drop, sym, refl, ap, ◌∙◌, subst, ap₂, inl, inr, zero-le, add-sub_of_le, zero-mul, arith}
use native.Mathlib.Nat.{le_dest}
use Rattle.counting.proofs.Parties.{others}
use Rattle.counting.proofs.Rows.{count_same, count_false, count_added, count_number}
use Rattle.counting.proofs.Totals.{total_split, total_same, total_ext, total_one}
use Rattle.counting.specs.Counting.{count, total, same_row, is_order}
use Rattle.counting.specs.Rows.{add_bits}
use Rattle.order.specs.Orders.{Order, some, none, put, next, order, Valid}
use Rattle.std.proofs.lemmas.Bool.{cases_lt, lt-ltb, le-ltb, ne_eqb, eq-eqb}
use Rattle.uniform.proofs.Draws.{draw_short, draw_long}
use Rattle.uniform.proofs.Widths.{width_fits}
use Rattle.uniform.specs.Bits.{Bits}
use Rattle.uniform.specs.Draws.{width, number, Drawn, got, out, draw}

-- too few bits for a draw
pub count_short : (f n b : ℕ) (F : Drawn → Bool) → b < width n → count b (λ bs. F (draw (suc f) n bs)) ≡ count b (λ bs. F out)
count_short f n b F h = count_same b (λ bs. F (draw (suc f) n bs)) (λ bs. F out) (λ bs e. ap F (draw_short (suc f) n bs (omega arith)))

-- enough bits: each number below n is drawn at once by as many rows, and the numbers from n on are drawn again
pub count_draw : (f n b : ℕ) (F : Drawn → Bool) →
    count (width n + b) (λ bs. F (draw (suc f) n bs)) ≡ total 0 n (λ i. count b (λ r. F (got i r))) + (2 ^ width n - n) * count b (λ r. F (draw f n r))
count_draw f n b F =
    count_same (width n + b) (λ bs. F (draw (suc f) n bs)) (λ bs. G (number (width n) 0 bs) (drop (width n) bs))
    (λ bs e. ap F (draw_long f n bs (omega arith)))
    ∙ count_number (width n) b 0 G
    ∙ ap₂ (λ s k. total s k H) (zero-mul (2 ^ width n)) (sym (add-sub_of_le (width_fits n)))
    ∙ total_split 0 n (2 ^ width n - n) H
    ∙ ap₂ ◌+◌ (total_ext 0 n H (λ i. count b (λ r. F (got i r))) (λ i l. ap (λ p. count b (λ r. F (cond p (got i r) (draw f n r)))) (lt-ltb i n (omega arith))))
    (total_same (0 + n) (2 ^ width n - n) (count b (λ r. F (draw f n r))) H
    (λ i l k. ap (λ p. count b (λ r. F (cond p (got i r) (draw f n r)))) (le-ltb i n (omega arith))))
  where
    G : ℕ → List ℕ → Bool
    G i r = F (cond (ltb i n) (got i r) (draw f n r))

    H : ℕ → ℕ
    H i = count b (G i)

is_order_put : (k i : ℕ) (ks : List ℕ) (o : Order) (p : Bool) → eqb k i ≡ p → is_order (k ∷ ks) (put i o) ≡ (p && is_order ks o)
unfolding is_order put same_row
is_order_put k i ks (some xs) p e = ap (λ q. q && same_row ks xs) e
is_order_put k i ks none true e = refl
is_order_put k i ks none false e = refl

-- the rows that give k first, and then ks
first_is : (n b k : ℕ) (ks : List ℕ) (g : List ℕ → Order) → k < n →
    total 0 n (λ i. count b (λ r. is_order (k ∷ ks) (put i (g r)))) ≡ count b (λ r. is_order ks (g r))
first_is n b k ks g h =
    total_one 0 n k (λ i. count b (λ r. is_order (k ∷ ks) (put i (g r)))) zero-le (omega arith)
    (λ i ne. count_same b (λ r. is_order (k ∷ ks) (put i (g r))) (λ r. false) (λ r e. is_order_put k i ks (g r) false (ne_eqb k i (λ q. ne (sym q)))) ∙ count_false b)
    ∙ count_same b (λ r. is_order (k ∷ ks) (put k (g r))) (λ r. is_order ks (g r)) (λ r e. is_order_put k k ks (g r) true (eq-eqb k k refl))

-- and so the rows of width n + b bits that give an order with k first don't depend on k
pub order_draw : (f n b k : ℕ) (ks : List ℕ) (g : List ℕ → Order) → k < n →
    count (width n + b) (λ bs. is_order (k ∷ ks) (next g (draw (suc f) n bs))) ≡
    count b (λ r. is_order ks (g r)) + (2 ^ width n - n) * count b (λ r. is_order (k ∷ ks) (next g (draw f n r)))
unfolding next
order_draw f n b k ks g h =
    count_draw f n b (λ d. is_order (k ∷ ks) (next g d)) ∙
    ap (λ x. x + (2 ^ width n - n) * count b (λ r. is_order (k ∷ ks) (next g (draw f n r)))) (first_is n b k ks g h)

fair_draw : (n k l : ℕ) (ks ls : List ℕ) (g : List ℕ → Order) → k < n → l < n → ((b : ℕ) → count b (λ r. is_order ks (g r)) ≡ count b (λ r. is_order ls (g r))) →
    (f b : ℕ) → count b (λ bs. is_order (k ∷ ks) (next g (draw f n bs))) ≡ count b (λ bs. is_order (l ∷ ls) (next g (draw f n bs)))
unfolding next is_order draw
fair_draw n k l ks ls g hk hl same zero b = refl
fair_draw n k l ks ls g hk hl same (suc f) b = go (cases_lt b (width n)) (fair_draw n k l ks ls g hk hl same f)
  where
    Same : ℕ → ℕ → Type 0
    Same f b = count b (λ bs. is_order (k ∷ ks) (next g (draw f n bs))) ≡ count b (λ bs. is_order (l ∷ ls) (next g (draw f n bs)))

    go : (b < width n) ⊎ (width n ≤ b) → ((c : ℕ) → Same f c) → Same (suc f) b
    go (inl h) ih = count_short f n b (λ d. is_order (k ∷ ks) (next g d)) h ∙ sym (count_short f n b (λ d. is_order (l ∷ ls) (next g d)) h)
    go (inr h) ih =
        let c = le_dest h in
        subst (Same (suc f)) c.1
        (order_draw f n c.0 k ks g hk ∙ ap₂ (λ x y. x + (2 ^ width n - n) * y) (same c.0) (ih c.0) ∙ sym (order_draw f n c.0 l ls g hl))

pub fair_order : (n : ℕ) (ks ls : List ℕ) → Valid n ks → Valid n ls → (b : ℕ) → count b (λ bs. is_order ks (order n bs)) ≡ count b (λ bs. is_order ls (order n bs))
unfolding Valid order
fair_order zero [] [] p q b = refl
fair_order zero [] (l ∷ ls) p q b = absurd q
fair_order zero (k ∷ ks) ls p q b = absurd p
fair_order (suc n) [] ls p q b = absurd p
fair_order (suc n) (k ∷ ks) [] p q b = absurd q
fair_order (suc n) (k ∷ ks) (l ∷ ls) p q b =
    turn k ks ∙ fair_draw (suc n) k l ks ls (λ r. order n r) p.0 q.0 (fair_order n ks ls p.1 q.1) (suc b) b ∙ sym (turn l ls)
  where
    turn : (k : ℕ) (ks : List ℕ) → count b (λ bs. is_order (k ∷ ks) (order (suc n) bs)) ≡ count b (λ bs. is_order (k ∷ ks) (next (λ r. order n r) (draw (suc b) (suc n) bs)))
    turn k ks =
        count_same b (λ bs. is_order (k ∷ ks) (order (suc n) bs)) (λ bs. is_order (k ∷ ks) (next (λ r. order n r) (draw (suc b) (suc n) bs)))
        (λ bs e. ap (λ x. is_order (k ∷ ks) (next (λ r. order n r) (draw (suc x) (suc n) bs))) e)

pub fair_holds : (n b : ℕ) (others : List ℕ) (ks ls : List ℕ) → length others ≡ b → Bits others → Valid n ks → Valid n ls →
    count b (λ mine. is_order ks (order n (add_bits others mine))) ≡ count b (λ mine. is_order ls (order n (add_bits others mine)))
fair_holds n b others ks ls e h p q =
    count_added b others (λ r. is_order ks (order n r)) e h ∙ fair_order n ks ls p q b ∙ sym (count_added b others (λ r. is_order ls (order n r)) e h)
