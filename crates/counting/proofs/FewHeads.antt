-- How few rows of coins have few heads. Assumes nothing.
use Rattle.std.proofs.Common.{◌≡◌, ℕ, zero, suc, ◌+◌, ◌*◌, ◌^◌, ◌<◌, ◌≤◌, sym, refl, ap, ◌∙◌, subst, zero-le, le_trans, le_refl, lt_of_le_of_lt, add-zero, add-suc, mul-le-mul_right, mul_assoc, mul_comm, add-mul, mul-le-mul, lt_of_mul-lt-mul_right, suc-add, mul-le-mul_left, one-mul, zero-add, mul-one, mul_left_comm, arith, lit<, lit≤}
use native.Mathlib.Nat.{pow-zero, pow-succ', pow-le-pow_left}
use Rattle.counting.specs.Counting.{few}

few_all : (n t : ℕ) → few n t ≤ 2 ^ t
unfolding few
few_all zero t = zero-le
few_all (suc n) zero = le_refl 1
few_all (suc n) (suc t) = simp pow-succ' (omega (arith, few_all n t, few_all (suc n) t))

few_one : (t : ℕ) → few 1 t ≡ 1
unfolding few
few_one zero = refl
few_one (suc t) = omega (arith, few_one t)

-- weigh each head by p and each tail by q: fewer than suc m heads of m + d coins weigh at least p^m * q^d, and all rows weigh (p + q)^(m + d)
module _ (p q : ℕ) (le : p ≤ q) where
  all_heads : (m : ℕ) → 2 ^ m * p ^ m ≤ (p + q) ^ m
  all_heads zero = simp (pow-zero, mul-one) (le_refl 1)
  all_heads (suc m) =
      rw (pow-succ' 2 m, pow-succ' p m, pow-succ' (p + q) m, turn)
      (mul-le-mul {n₁ = 2 * p} {n₂ = p + q} (omega arith) (all_heads m))
    where
      turn : 2 * 2 ^ m * (p * p ^ m) ≡ 2 * p * (2 ^ m * p ^ m)
      turn = mul_assoc 2 (2 ^ m) (p * p ^ m) ∙ ap (λ z. 2 * z) (mul_left_comm (2 ^ m) p (p ^ m)) ∙ sym (mul_assoc 2 p (2 ^ m * p ^ m))

  Light : ℕ → ℕ → Type 0
  Light m d = few (suc m) (m + d) * (p ^ m * q ^ d) ≤ (p + q) ^ (m + d)

  no_head : (d : ℕ) → Light 0 d
  unfolding Light
  no_head d = rw (zero-add d, few_one d, pow-zero p, one-mul (q ^ d), one-mul (q ^ d)) (pow-le-pow_left (omega arith) d)

  step : (a b P Q S : ℕ) → a * (P * (q * Q)) ≤ S → b * (p * P * Q) ≤ S → (a + b) * (p * P * (q * Q)) ≤ (p + q) * S
  step a b P Q S u v = simp (add-mul, one, two) (omega (arith, mul-le-mul_left p u, mul-le-mul_left q v))
    where
      one : a * (p * P * (q * Q)) ≡ p * (a * (P * (q * Q)))
      one = ap (λ z. a * z) (mul_assoc p P (q * Q)) ∙ mul_left_comm a p (P * (q * Q))

      two : b * (p * P * (q * Q)) ≡ q * (b * (p * P * Q))
      two = ap (λ z. b * z) (mul_left_comm (p * P) q Q) ∙ mul_left_comm b q (p * P * Q)

  more : (m : ℕ) → ((d : ℕ) → Light m d) → (d : ℕ) → Light (suc m) d
  unfolding Light few
  more m ih zero =
      rw (add-zero (suc m), pow-zero q, mul-one (p ^ suc m)) (le_trans (mul-le-mul_right (p ^ suc m) (few_all (suc (suc m)) (suc m))) (all_heads (suc m)))
  more m ih (suc d) =
      rw (suc-add m (suc d), pow-succ' p m, pow-succ' q d, pow-succ' (p + q) (m + suc d))
      (step (few (suc m) (m + suc d)) (few (suc (suc m)) (m + suc d)) (p ^ m) (q ^ d) ((p + q) ^ (m + suc d))
      (rw (pow-succ' q d) at (ih (suc d)))
      (rw (pow-succ' p m) at
      (subst (λ z. few (suc (suc m)) z * (p ^ suc m * q ^ d) ≤ (p + q) ^ z) (suc-add m d ∙ sym (add-suc m d)) (more m ih d))))

  light_all : (m d : ℕ) → few (suc m) (m + d) * (p ^ m * q ^ d) ≤ (p + q) ^ (m + d)
  unfolding Light
  light_all m d = go m d
    where
      go : (m d : ℕ) → Light m d
      go zero d = no_head d
      go (suc m) d = more m (go m) d

pub few_heads_holds : (p q : ℕ) → p ≤ q → (m d : ℕ) → few (suc m) (m + d) * (p ^ m * q ^ d) ≤ (p + q) ^ (m + d)
few_heads_holds p q le m d = light_all p q le m d

pub cancel : (X A K T V : ℕ) → X * K ≤ V → V * A < T * K → X * A < T
cancel X A K T V u v = lt_of_mul-lt-mul_right K (rw turn (lt_of_le_of_lt (mul-le-mul_right A u) v))
  where
    turn : X * A * K ≡ X * K * A
    turn = mul_assoc X A K ∙ ap (λ z. X * z) (mul_comm A K) ∙ sym (mul_assoc X K A)

-- 1400 names, and 5957 tries: 65527 bits of 65536
pub few_1400_holds : few 1400 5957 * 2 ^ 1000 < 2 ^ 5957
few_1400_holds = cancel (few 1400 5957) (2 ^ 1000) (3 ^ 1399 * 10 ^ 4558) (2 ^ 5957) (13 ^ 5957) (few_heads_holds 3 10 (lit≤ tt) 1399 4558) (lit< tt)
