-- Few rows are used up before there is an order. Assumes nothing.
use Rattle.std.proofs.Common.{◌≡◌, ℕ, zero, suc, ◌+◌, ◌-◌, ◌*◌, ◌^◌, ◌<◌, ◌≤◌, ◌⊎◌, List, length, sym, refl, ap, ◌∙◌, subst, ap₂, inl, inr, zero-le, le_trans, le_refl, add-zero, add-suc, mul-le-mul_right, mul_assoc, add-mul, add-sub_of_le, mul-le-mul_left, one-mul, zero-mul, mul-one, mul-suc, mul-add, mul_left_comm, arith, pow-add}
use native.Mathlib.Nat.{pow-succ', le_dest}
use Rattle.counting.proofs.Fairness.{count_draw}
use Rattle.counting.proofs.Parties.{others}
use Rattle.counting.proofs.Rows.{count_same, count_false, count_all, count_added}
use Rattle.counting.proofs.Totals.{total_same}
use Rattle.counting.specs.Counting.{count, few, is_none}
use Rattle.counting.specs.Rows.{add_bits}
use Rattle.order.specs.Orders.{Order, some, none, put, next, order}
use Rattle.std.proofs.lemmas.Bool.{cases_lt}
use Rattle.uniform.proofs.Widths.{width_fits, width_least}
use Rattle.uniform.specs.Bits.{Bits}
use Rattle.uniform.specs.Draws.{width, draw}

few_less : (n t : ℕ) → few n t ≤ few (suc n) t
unfolding few
few_less zero t = zero-le
few_less (suc n) zero = le_refl 1
few_less (suc n) (suc t) = omega (arith, few_less n t, few_less (suc n) t)

few_up : (c n t : ℕ) → few n t ≤ few (n + c) t
few_up zero n t = simp add-zero (le_refl (few n t))
few_up (suc c) n t = simp add-suc (le_trans (few_up c n t) (few_less (n + c) t))

pub few_mono : (n m t : ℕ) → n ≤ m → few n t ≤ few m t
few_mono n m t h = let c = le_dest h in subst (λ z. few n t ≤ few z t) c.1 (few_up c.0 n t)

-- at least half of the numbers of width n bits are below n
half : (n : ℕ) → 0 < n → 2 ^ width n ≤ 2 * n
half n h = go (width n) (width_least n)
  where
    go : (v : ℕ) → ((j : ℕ) → n ≤ 2 ^ j → v ≤ j) → 2 ^ v ≤ 2 * n
    go zero least = omega arith
    go (suc u) least = by (cases_lt (2 ^ u) n)
      where
        by : (2 ^ u < n) ⊎ (n ≤ 2 ^ u) → 2 ^ suc u ≤ 2 * n
        by (inl a) = simp pow-succ' (omega arith)
        by (inr a) = absurd (omega (arith, least u a))

width_mono : (n : ℕ) → width n ≤ width (suc n)
width_mono n = width_least n (width (suc n)) (omega (arith, width_fits (suc n)))

none_put : (i : ℕ) (o : Order) → is_none (put i o) ≡ is_none o
unfolding is_none put
none_put i (some xs) = refl
none_put i none = refl

none_draw : (f n b : ℕ) (g : List ℕ → Order) → count (width n + b) (λ bs. is_none (next g (draw (suc f) n bs))) ≡
    n * count b (λ r. is_none (g r)) + (2 ^ width n - n) * count b (λ r. is_none (next g (draw f n r)))
unfolding next
none_draw f n b g =
    count_draw f n b (λ d. is_none (next g d)) ∙
    ap (λ x. x + (2 ^ width n - n) * count b (λ r. is_none (next g (draw f n r))))
    (total_same 0 n (count b (λ r. is_none (g r))) (λ i. count b (λ r. is_none (put i (g r))))
    (λ i l k. count_same b (λ r. is_none (put i (g r))) (λ r. is_none (g r)) (λ r e. none_put i (g r))))

-- s of n + s are tried again, no more than are not
mean : (n s x y : ℕ) → s ≤ n → x ≤ y → 2 * (n * x + s * y) ≤ (n + s) * (x + y)
mean n s x y h l =
    let d = le_dest h in
    subst (λ k. 2 * (k * x + s * y) ≤ (k + s) * (x + y)) d.1 (simp (add-mul, mul-add) (omega (arith, mul-le-mul_left d.0 l)))

step : (n s V a c A C P B : ℕ) → n + s ≡ V → s ≤ n → a ≤ c → A * P ≤ a * B → s * (C * P) ≤ s * (c * B) → (n * A + s * C) * (2 * P) ≤ (a + c) * (V * B)
step n s V a c A C P B e h l p q =
    let once : 2 * (n * (A * P) + s * (C * P)) ≤ 2 * (n * (a * B) + s * (c * B)) = omega (arith, mul-le-mul_left n p) in
    rw (left, right) (le_trans once (mean n s (a * B) (c * B) h (mul-le-mul_right B l)))
  where
    left : (n * A + s * C) * (2 * P) ≡ 2 * (n * (A * P) + s * (C * P))
    left = mul_left_comm (n * A + s * C) 2 P ∙ ap (λ z. 2 * z) (add-mul (n * A) (s * C) P ∙ ap₂ ◌+◌ (mul_assoc n A P) (mul_assoc s C P))

    right : (a + c) * (V * B) ≡ (n + s) * (a * B + c * B)
    right = mul_left_comm (a + c) V B ∙ ap₂ ◌*◌ (sym e) (add-mul a c B)

-- with no bit read, nothing is drawn again
again : (n : ℕ) {x y : ℕ} → 0 < n → (0 < width n → x ≤ y) → (2 ^ width n - n) * x ≤ (2 ^ width n - n) * y
again n {x} {y} h f = go (width n) f
  where
    go : (v : ℕ) → (0 < v → x ≤ y) → (2 ^ v - n) * x ≤ (2 ^ v - n) * y
    go zero f = let z : 2 ^ 0 - n ≡ 0 = omega arith in rw (z, zero-mul x) zero-le
    go (suc v) f = mul-le-mul_left (2 ^ suc v - n) (f (omega arith))

module _ (m w : ℕ) (fits : width (suc m) ≤ w)
    (ih : (t b : ℕ) → w * t ≤ b → count b (λ r. is_none (order m r)) * 2 ^ t ≤ few m t * 2 ^ b) where
  seldom_draw : (t f b : ℕ) → w * t ≤ b → b < f →
      count b (λ r. is_none (next (λ r. order m r) (draw f (suc m) r))) * 2 ^ t ≤ few (suc m) t * 2 ^ b
  unfolding few
  seldom_draw zero f b h l = simp (mul-one, one-mul) (count_all b (λ r. is_none (next (λ r. order m r) (draw f (suc m) r))))
  seldom_draw (suc t) zero b h l = absurd (omega arith)
  seldom_draw (suc t) (suc f) b h l =
      let v : width (suc m) ≤ b = omega (arith, mul-suc w t) in
      let d = le_dest v in
      let k : w * t ≤ d.0 = omega (arith, mul-suc w t, d.1) in
      subst (λ x. count x (λ r. is_none (next (λ r. order m r) (draw (suc f) (suc m) r))) * 2 ^ suc t ≤ (few m t + few (suc m) t) * 2 ^ x) d.1
      (rw (none_draw f (suc m) d.0 (λ r. order m r), pow-succ' 2 t, pow-add 2 (width (suc m)) d.0)
      (step (suc m) (2 ^ width (suc m) - suc m) (2 ^ width (suc m)) (few m t) (few (suc m) t) (count d.0 (λ r. is_none (order m r)))
      (count d.0 (λ r. is_none (next (λ r. order m r) (draw f (suc m) r)))) (2 ^ t) (2 ^ d.0)
      (add-sub_of_le (width_fits (suc m))) (omega (arith, half (suc m) (omega arith))) (few_less m t) (ih t d.0 k)
      (again (suc m) (omega arith) (λ u. seldom_draw t f d.0 k (omega (arith, d.1))))))

turn : (b m : ℕ) → count b (λ r. is_none (order (suc m) r)) ≡ count b (λ r. is_none (next (λ r. order m r) (draw (suc b) (suc m) r)))
unfolding order
turn b m =
    count_same b (λ r. is_none (order (suc m) r)) (λ r. is_none (next (λ r. order m r) (draw (suc b) (suc m) r)))
    (λ r e. ap (λ x. is_none (next (λ r. order m r) (draw (suc x) (suc m) r))) e)

pub seldom_order : (n w : ℕ) → width n ≤ w → (t b : ℕ) → w * t ≤ b → count b (λ r. is_none (order n r)) * 2 ^ t ≤ few n t * 2 ^ b
unfolding order is_none
seldom_order zero w fits t b h = simp (count_false, zero-mul) zero-le
seldom_order (suc m) w fits t b h =
    rw (turn b m) (seldom_draw m w fits (seldom_order m w (le_trans (width_mono m) fits)) t (suc b) b h (le_refl (suc b)))

pub seldom_holds : (n w t : ℕ) (others : List ℕ) → length others ≡ w * t → Bits others → width n ≤ w →
    count (w * t) (λ bs. is_none (order n (add_bits others bs))) * 2 ^ t ≤ few n t * 2 ^ (w * t)
seldom_holds n w t others e h l = rw (count_added (w * t) others (λ r. is_none (order n r)) e h) (seldom_order n w l t (w * t) (le_refl (w * t)))
