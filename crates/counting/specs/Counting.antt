-- Counting rows of bits, orders and coins. Assumes nothing: these are definitions.
use Rattle.std.specs.Prelude.{ℕ, zero, suc, ◌+◌, ◌*◌, Bool, true, false, cond, ◌&&◌, List, [], ◌∷◌, ◌==◌}
use Rattle.order.specs.Orders.{Order, some, none}

-- how many of all rows of b bits have a property
unfoldable pub count : ℕ → (List ℕ → Bool) → ℕ
count zero f = cond (f []) 1 0
count (suc b) f = count b (λ bs. f (0 ∷ bs)) + count b (λ bs. f (1 ∷ bs))

-- what f has at s, s + 1, .., s + n - 1, added
unfoldable pub total : ℕ → ℕ → (ℕ → ℕ) → ℕ
total s zero f = 0
total s (suc n) f = f s + total (suc s) n f

-- how many of all orders of n names, as rows of drawn numbers, have a property
unfoldable pub tally : ℕ → (List ℕ → Bool) → ℕ
tally zero G = cond (G []) 1 0
tally (suc n) G = total 0 (suc n) (λ k. tally n (λ ks. G (k ∷ ks)))

-- n names have 1 * 2 * .. * n orders
unfoldable pub fact : ℕ → ℕ
fact zero = 1
fact (suc n) = suc n * fact n

-- how many rows of t coins have fewer than n heads
unfoldable pub few : ℕ → ℕ → ℕ
few zero t = 0
few (suc n) zero = 1
few (suc n) (suc t) = few n t + few (suc n) t

unfoldable pub same_row : List ℕ → List ℕ → Bool
same_row [] [] = true
same_row [] (y ∷ ys) = false
same_row (x ∷ xs) [] = false
same_row (x ∷ xs) (y ∷ ys) = x == y && same_row xs ys

-- it is this order; it is none; it is one with a property
unfoldable pub is_order : List ℕ → Order → Bool
is_order ks none = false
is_order ks (some xs) = same_row ks xs

unfoldable pub is_none : Order → Bool
is_none none = true
is_none (some xs) = false

unfoldable pub gives : (List ℕ → Bool) → Order → Bool
gives G none = false
gives G (some ks) = G ks
