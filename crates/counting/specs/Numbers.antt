-- What the drawing of one number promises. Assumes nothing.
use Rattle.std.specs.Prelude.{◌≡◌, ℕ, suc, ◌<◌, Bool, false, List, length, ◌==◌}
use Rattle.counting.specs.Counting.{count}
use Rattle.counting.specs.Rows.{add_bits}
use Rattle.uniform.specs.Bits.{Bits}
use Rattle.uniform.specs.Draws.{Drawn, got, out, draw}

-- the number drawn is k
unfoldable pub is_number : ℕ → Drawn → Bool
is_number k out = false
is_number k (got i rest) = k == i

-- a drawn number is below n; and whatever the others put in, of all rows of b bits as many give one number below n as any other
abbrev pub FairNumber : Type 0
FairNumber =
    ((f n : ℕ) (bs : List ℕ) (k : ℕ) (rest : List ℕ) → draw f n bs ≡ got k rest → k < n)
    × ((n b : ℕ) (others : List ℕ) (k l : ℕ) → length others ≡ b → Bits others → k < n → l < n →
    count b (λ mine. is_number k (draw (suc b) n (add_bits others mine))) ≡ count b (λ mine. is_number l (draw (suc b) n (add_bits others mine))))
