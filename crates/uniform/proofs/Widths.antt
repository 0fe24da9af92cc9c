-- The width of n is the least k with n at most 2^k. Assumes nothing.
use lib.Count.{count_leading_zeros}
use Rattle.std.proofs.Common.{◌≡◌, ℕ, zero, suc, ◌+◌, ◌-◌, ◌*◌, ◌^◌, ◌<◌, ◌≤◌, Bool, true, false, cond, leb, ◌⊎◌, refl, inl, inr, zero-le, add-zero, add-suc, suc-add, zero-add, arith, pow_pos, pow_mono}
use native.Mathlib.Nat.{pow-succ'}
use Rattle.std.proofs.lemmas.Nat.{leading_length}
use Rattle.std.proofs.lemmas.Bool.{leb-true, leb-false, cases_lt}
use Rattle.uniform.specs.Draws.{width_from, width}

fits_from : (n k f : ℕ) → n ≤ 2 ^ (k + f) → n ≤ 2 ^ width_from n k f
unfolding width_from
fits_from n k zero h = rw add-zero at h
fits_from n k (suc f) h = go (leb n (2 ^ k)) refl (fits_from n (suc k) f (rw (suc-add, ← add-suc) h))
  where
    go : (p : Bool) → leb n (2 ^ k) ≡ p → n ≤ 2 ^ width_from n (suc k) f → n ≤ 2 ^ cond p k (width_from n (suc k) f)
    go true t ih = leb-true n (2 ^ k) t
    go false t ih = ih

-- 2^k is too small, and 2^j is not
strict : {n k j : ℕ} → 2 ^ k < n → n ≤ 2 ^ j → suc k ≤ j
strict {n} {k} {j} a b = go (cases_lt k j)
  where
    go : (k < j) ⊎ (j ≤ k) → suc k ≤ j
    go (inl h) = h
    go (inr h) = let p : 2 ^ j ≤ 2 ^ k = pow_mono h in absurd (omega arith)

least_from : (n k f j : ℕ) → n ≤ 2 ^ j → k ≤ j → width_from n k f ≤ j
unfolding width_from
least_from n k zero j h l = l
least_from n k (suc f) j h l = go (leb n (2 ^ k)) refl (least_from n (suc k) f j h)
  where
    go : (p : Bool) → leb n (2 ^ k) ≡ p → (suc k ≤ j → width_from n (suc k) f ≤ j) → cond p k (width_from n (suc k) f) ≤ j
    go true t ih = l
    go false t ih = ih (strict (leb-false n (2 ^ k) t) h)

below_power : (n : ℕ) → n ≤ 2 ^ n
below_power zero = zero-le
below_power (suc n) = simp pow-succ' (omega (arith, below_power n, pow_pos n))

pub width_fits : (n : ℕ) → n ≤ 2 ^ width n
unfolding width
width_fits n = fits_from n 0 n (rw zero-add (below_power n))

pub width_least : (n j : ℕ) → n ≤ 2 ^ j → width n ≤ j
unfolding width
width_least n j h = least_from n 0 n j h zero-le

-- `16 - n.saturating_sub(1).leading_zeros()`
pub width_counted : (n : ℕ) → n < 2 ^ 16 → 16 - count_leading_zeros 16 (n - 1) ≡ width n
width_counted n h =
    let r = leading_length 16 (n - 1) (omega arith) in
    let m : ℕ = r.0 in
    let low : m ≤ width n = least m r.3 (cases_lt (width n) m) in
    omega (arith, r.1, width_least n m (omega (arith, r.2)))
  where
    least : (m : ℕ) → 2 ^ m ≤ 2 * (n - 1) + 1 → (width n < m) ⊎ (m ≤ width n) → m ≤ width n
    least m s (inr l) = l
    least m s (inl l) = let p : 2 ^ suc (width n) ≤ 2 ^ m = pow_mono l in absurd (omega (arith, rw pow-succ' at p, width_fits n, pow_pos (width n)))
