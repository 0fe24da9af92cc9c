-- A row added in place, byte by byte. Assumes nothing.
use lib.Bits.{bit_xor}
use Rattle.std.proofs.Common.{◌≡◌, ℕ, zero, suc, ◌+◌, ◌<◌, ◌≤◌, min, List, [], ◌∷◌, length, get_or, take, set, refl, ap, add-one, arith}
use Rattle.sum.specs.Sums.{xor_bytes}

pub none_added : (s : List ℕ) → s ≡ xor_bytes s []
unfolding xor_bytes
none_added [] = refl
none_added (a ∷ s) = refl

one_added : (s row : List ℕ) (i : ℕ) → i < length row → i < length s
    → set (xor_bytes s (take i row)) i (bit_xor (get_or (xor_bytes s (take i row)) i 0) (get_or row i 0)) ≡ xor_bytes s (take (suc i) row)
unfolding xor_bytes
one_added [] row i h l = absurd (omega arith)
one_added (a ∷ s) [] i h l = absurd (omega arith)
one_added (a ∷ []) (b ∷ row) zero h l = refl
one_added (a ∷ (c ∷ s)) (b ∷ row) zero h l = refl
one_added (a ∷ s) (b ∷ row) (suc i) h l = ap (λ (z : List ℕ). bit_xor a b ∷ z) (one_added s row i (omega arith) (omega arith))

-- y, which stands in the row at place i, is added, where the bytes before place i are
pub next_added : (s row now : List ℕ) (i y : ℕ) → now ≡ xor_bytes s (take i row) → y ≡ get_or row i 0 → i < length row → i < length s
    → set now i (bit_xor (get_or now i 0) y) ≡ xor_bytes s (take (i + 1) row)
next_added s row now i y e f h l = rw (e, f, add-one) (one_added s row i h l)

-- no byte past the shorter row is added
pub all_added : (s row : List ℕ) (i : ℕ) → min (length s) (length row) ≤ i → xor_bytes s (take i row) ≡ xor_bytes s row
unfolding xor_bytes
all_added [] row i h = refl
all_added (a ∷ s) [] zero h = refl
all_added (a ∷ s) [] (suc i) h = refl
all_added (a ∷ s) (b ∷ row) zero h = absurd (omega arith)
all_added (a ∷ s) (b ∷ row) (suc i) h = ap (λ (z : List ℕ). bit_xor a b ∷ z) (all_added s row i (omega arith))
