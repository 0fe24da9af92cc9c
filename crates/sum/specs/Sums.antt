-- The sum of rows of bytes. Assumes nothing: these are definitions.
use Rattle.std.specs.Prelude.{ℕ, List, [], ◌∷◌, replicate, bit_xor}

-- a row added to another, `^` place by place: what has no partner stays, and the length is that of the first
unfoldable pub xor_bytes : List ℕ → List ℕ → List ℕ
xor_bytes [] bs = []
xor_bytes (a ∷ xs) [] = a ∷ xs
xor_bytes (a ∷ xs) (b ∷ bs) = bit_xor a b ∷ xor_bytes xs bs

-- rows added one after another to what is summed so far
unfoldable pub sum_from : List ℕ → List (List ℕ) → List ℕ
sum_from s [] = s
sum_from s (row ∷ rows) = sum_from (xor_bytes s row) rows

-- the sum of rows of L bytes, from L zeros on
unfoldable pub sum_of : ℕ → List (List ℕ) → List ℕ
sum_of L rows = sum_from (replicate L 0) rows
