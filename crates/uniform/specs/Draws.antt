-- A number below n drawn from bits, with none favoured. Assumes nothing: these are definitions.
use Rattle.std.specs.Prelude.{ℕ, zero, suc, ◌+◌, ◌-◌, ◌*◌, ◌^◌, cond, List, [], ◌∷◌, length, drop, Some, None, Option, nat_le, nat_lt}

-- how many bits a number below n needs: the least k with n at most 2^k, looked for from k on in f steps
unfoldable pub width_from : ℕ → ℕ → ℕ → ℕ
width_from n k zero = k
width_from n k (suc f) = cond (nat_le n (2 ^ k)) k (width_from n (suc k) f)

unfoldable pub width : ℕ → ℕ
width n = width_from n 0 n

-- the first k bits as a number, the first one the highest, behind what is read so far
unfoldable pub number : ℕ → ℕ → List ℕ → ℕ
number zero v bs = v
number (suc k) v [] = v
number (suc k) v (b ∷ bs) = number k (2 * v + b) bs

-- what is drawn: a number and the bits that are left, or the bits have run out
pub data Drawn : Type 0 where
  got : ℕ → List ℕ → Drawn
  out : Drawn

-- a number below n: width n bits are read; a number not below n is thrown away, and width n bits are read again, f times at most
unfoldable pub draw : ℕ → ℕ → List ℕ → Drawn
draw zero n bs = out
draw (suc f) n bs =
    cond (nat_lt (length bs) (width n)) out
    (cond (nat_lt (number (width n) 0 bs) n) (got (number (width n) 0 bs) (drop (width n) bs)) (draw f n (drop (width n) bs)))

-- the number drawn, and the place of the next bit, where b bits were left from a place on
abbrev pub placed : ℕ → ℕ → Drawn → Option (ℕ × ℕ)
placed from b (got k rest) = Some (k, from + (b - length rest))
placed from b out = None

-- a number below n from the bits from a place on. Places are numbers of 64 bits: from bits that have no such place nothing is drawn
unfoldable pub drawn_at : List ℕ → ℕ → ℕ → Option (ℕ × ℕ)
drawn_at bs from n =
    cond (nat_lt (length bs) (2 ^ 64)) (placed from (length (drop from bs)) (draw (suc (length (drop from bs))) n (drop from bs))) None
