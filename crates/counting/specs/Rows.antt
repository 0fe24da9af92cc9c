-- Rows of bits and rows of bytes: adding, and one made into the other. Assumes nothing.
use Rattle.std.specs.Prelude.{◌≡◌, ℕ, zero, suc, ◌*◌, ◌<◌, cond, List, [], ◌∷◌, length, drop, ◌==◌, slice_index}
use Rattle.sum.specs.Sums.{xor_bytes}
use Rattle.uniform.specs.Bits.{bits, Bits}
use Rattle.uniform.specs.Draws.{number}

-- two bits added: 0 where they are equal, else 1
abbrev pub add_bit : ℕ → ℕ → ℕ
add_bit a b = cond (a == b) 0 1

-- a row of bits added to another, place by place: what has no partner stays
unfoldable pub add_bits : List ℕ → List ℕ → List ℕ
add_bits [] bs = []
add_bits (a ∷ xs) [] = a ∷ xs
add_bits (a ∷ xs) (b ∷ bs) = add_bit a b ∷ add_bits xs bs

-- a row of bits as L bytes, 8 bits a byte
unfoldable pub bytes_of : ℕ → List ℕ → List ℕ
bytes_of zero row = []
bytes_of (suc L) row = number 8 0 row ∷ bytes_of L (drop 8 row)

-- every number of a list is below n
abbrev pub Below : ℕ → List ℕ → Type 0
Below n xs = (i : ℕ) → i < length xs → slice_index xs i < n

-- the bits of a sum of bytes are the bits of both, added
abbrev pub BitsAdded : Type 0
BitsAdded = (a b : List ℕ) → bits (xor_bytes a b) ≡ add_bits (bits a) (bits b)

-- each row of 8 * L bits is that of one row of L bytes
abbrev pub Packed : Type 0
Packed =
    (L : ℕ) (row : List ℕ) → length row ≡ 8 * L → Bits row → (bits (bytes_of L row) ≡ row) × (length (bytes_of L row) ≡ L) × Below 256 (bytes_of L row)

-- and each row of L bytes is that of one row of 8 * L bits
abbrev pub EachRow : Type 0
EachRow =
    (L : ℕ) (row : List ℕ) → length row ≡ L → Below 256 row → (bytes_of L (bits row) ≡ row) × (length (bits row) ≡ 8 * L) × Bits (bits row)
