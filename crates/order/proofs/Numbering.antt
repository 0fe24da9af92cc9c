-- Names numbered in place. Assumes nothing.
use Rattle.std.proofs.Common.{◌≡◌, ℕ, zero, suc, ◌+◌, ◌<◌, ◌≤◌, List, [], ◌∷◌, length, set, refl, ap, ◌∙◌, add-one, arith}
use Rattle.order.specs.Orders.{numbers_from}

-- the first i names numbered from s on, the others not yet
abbrev pub numbered : ℕ → ℕ → List ℕ → List ℕ
numbered s zero xs = xs
numbered s (suc i) [] = []
numbered s (suc i) (x ∷ xs) = s ∷ numbered (suc s) i xs

number_suc : (s i : ℕ) (xs : List ℕ) → i < length xs → set (numbered s i xs) i (s + i) ≡ numbered s (suc i) xs
number_suc s i [] h = absurd (omega arith)
number_suc s zero (x ∷ xs) h = let e : s + 0 ≡ s = omega arith in ap (λ z. z ∷ xs) e
number_suc s (suc i) (x ∷ xs) h = let e : s + suc i ≡ suc s + i = omega arith in rw e (ap (λ z. s ∷ z) (number_suc (suc s) i xs (omega arith)))

pub number_next : (i : ℕ) (xs now : List ℕ) → i < length xs → now ≡ numbered 0 i xs → set now i i ≡ numbered 0 (i + 1) xs
number_next i xs now h e = rw (e, add-one) (ap (λ z. set (numbered 0 i xs) i z) (omega arith) ∙ number_suc 0 i xs h)

all_from : (s i : ℕ) (xs : List ℕ) → length xs ≤ i → numbered s i xs ≡ numbers_from s (length xs)
unfolding numbers_from
all_from s zero [] h = refl
all_from s zero (x ∷ xs) h = absurd (omega arith)
all_from s (suc i) [] h = refl
all_from s (suc i) (x ∷ xs) h = ap (λ z. s ∷ z) (all_from (suc s) i xs (omega arith))

pub all_numbered : (i : ℕ) (xs now : List ℕ) → length xs ≤ i → now ≡ numbered 0 i xs → now ≡ numbers_from 0 (length xs)
all_numbered i xs now h e = e ∙ all_from 0 i xs h
