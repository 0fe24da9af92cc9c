-- An order of n names drawn from bits, by its numbers and by its names. Assumes nothing: these are definitions.
use Rattle.std.specs.Prelude.{ℕ, zero, suc, ◌+◌, ◌<◌, cond, List, [], ◌∷◌, length, ◌==◌, slice_index}
use Rattle.uniform.specs.Draws.{Drawn, got, out, draw}

-- an order, or none where the bits ran out
pub data Order : Type 0 where
  some : List ℕ → Order
  none : Order

-- one more number before those of an order
unfoldable pub put : ℕ → Order → Order
put k (some ks) = some (k ∷ ks)
put k none = none

-- the number drawn, and then the order from the bits that are left
unfoldable pub next : (List ℕ → Order) → Drawn → Order
next f (got k rest) = put k (f rest)
next f out = none

-- an order of n names: which of those left comes first, then which of those left then, and so on, by their numbers among those left
unfoldable pub order : ℕ → List ℕ → Order
order zero bs = some []
order (suc n) bs = next (λ rest. order n rest) (draw (suc (length bs)) (suc n) bs)

-- rows of numbers that are orders of n names: the first below n, the next below n - 1, and so on
unfoldable pub Valid : ℕ → List ℕ → Type 0
Valid zero [] = Unit {0}
Valid zero (k ∷ ks) = ⊥
Valid (suc n) [] = ⊥
Valid (suc n) (k ∷ ks) = (k < suc n) × Valid n ks

-- a list without its element k
unfoldable pub without : ℕ → List ℕ → List ℕ
without k [] = []
without zero (x ∷ xs) = xs
without (suc k) (x ∷ xs) = x ∷ without k xs

-- an order written out in names: the name drawn, then the same with those left
unfoldable pub names : List ℕ → List ℕ → List ℕ
names ls [] = []
names ls (k ∷ ks) = slice_index ls k ∷ names (without k ls) ks

-- s, s + 1, .., s + n - 1
unfoldable pub numbers_from : ℕ → ℕ → List ℕ
numbers_from s zero = []
numbers_from s (suc n) = s ∷ numbers_from (suc s) n

-- an order of those names as the names one after another
unfoldable pub written : List ℕ → Order → Order
written ls (some ks) = some (names ls ks)
written ls none = none

-- the order of the names 0 to n - 1 that a row of bits draws
unfoldable pub order_names : ℕ → List ℕ → Order
order_names n bs = written (numbers_from 0 n) (order n bs)

-- how often x stands in a list
unfoldable pub times : ℕ → List ℕ → ℕ
times x [] = 0
times x (y ∷ ys) = cond (y == x) 1 0 + times x ys
