-- As many rows give one number below n as any other. Assumes nothing.
use Rattle.std.proofs.Common.{◌≡◌, ℕ, zero, suc, ◌+◌, ◌-◌, ◌*◌, ◌^◌, ◌<◌, ◌≤◌, true, eqb, ◌⊎◌, List, length, sym, refl, ap, ◌∙◌, subst, inl, inr, zero-le, arith}
use native.Mathlib.Nat.{le_dest}
use Rattle.counting.proofs.Fairness.{count_short, count_draw}
use Rattle.counting.proofs.Parties.{others}
use Rattle.counting.proofs.Rows.{count_false, count_added}
use Rattle.counting.proofs.Totals.{total_one}
use Rattle.counting.specs.Counting.{count}
use Rattle.counting.specs.Numbers.{is_number, FairNumber}
use Rattle.counting.specs.Rows.{add_bits}
use Rattle.std.proofs.lemmas.Bool.{cases_lt, ne_eqb, eq-eqb}
use Rattle.uniform.proofs.Draws.{draw_below}
use Rattle.uniform.specs.Bits.{Bits}
use Rattle.uniform.specs.Draws.{width, draw}

number_draw : (n k f b : ℕ) → k < n →
    count (width n + b) (λ bs. is_number k (draw (suc f) n bs)) ≡ count b (λ r. true) + (2 ^ width n - n) * count b (λ r. is_number k (draw f n r))
unfolding is_number
number_draw n k f b h =
    count_draw f n b (is_number k) ∙
    ap (λ x. x + (2 ^ width n - n) * count b (λ r. is_number k (draw f n r)))
    (total_one 0 n k (λ i. count b (λ r. eqb k i)) zero-le (omega arith) (λ i ne. ap (λ p. count b (λ r. p)) (ne_eqb k i (λ q. ne (sym q))) ∙ count_false b)
    ∙ ap (λ p. count b (λ r. p)) (eq-eqb k k refl))

number_fair : (n k l : ℕ) → k < n → l < n → (f b : ℕ) → count b (λ bs. is_number k (draw f n bs)) ≡ count b (λ bs. is_number l (draw f n bs))
unfolding is_number draw
number_fair n k l hk hl zero b = refl
number_fair n k l hk hl (suc f) b = go (cases_lt b (width n)) (number_fair n k l hk hl f)
  where
    Same : ℕ → ℕ → Type 0
    Same f b = count b (λ bs. is_number k (draw f n bs)) ≡ count b (λ bs. is_number l (draw f n bs))

    go : (b < width n) ⊎ (width n ≤ b) → ((c : ℕ) → Same f c) → Same (suc f) b
    go (inl h) ih = count_short f n b (is_number k) h ∙ sym (count_short f n b (is_number l) h)
    go (inr h) ih =
        let c = le_dest h in
        subst (Same (suc f)) c.1
        (number_draw n k f c.0 hk ∙ ap (λ y. count c.0 (λ r. true) + (2 ^ width n - n) * y) (ih c.0) ∙ sym (number_draw n l f c.0 hl))

number_added : (n b : ℕ) (others : List ℕ) (k l : ℕ) → length others ≡ b → Bits others → k < n → l < n →
    count b (λ mine. is_number k (draw (suc b) n (add_bits others mine))) ≡ count b (λ mine. is_number l (draw (suc b) n (add_bits others mine)))
number_added n b others k l e h p q =
    count_added b others (λ r. is_number k (draw (suc b) n r)) e h ∙ number_fair n k l p q (suc b) b ∙
    sym (count_added b others (λ r. is_number l (draw (suc b) n r)) e h)

pub fair_number_holds : FairNumber
fair_number_holds = (draw_below, number_added)
