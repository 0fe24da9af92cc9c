-- The padding of a message of bytes: FIPS 180-4, section 5.1.1.
-- Assumes nothing.
use Rattle.std.specs.Prelude.{ℕ, ◌-◌, ◌*◌, ◌/◌, ◌%◌, ◌^◌, List, [], ◌∷◌, ◌++◌, length, replicate}

-- the number x, below 2 ^ 64, in eight bytes, the highest first
abbrev pub eight_bytes : ℕ → List ℕ
eight_bytes x =
    x / 72057594037927936 % 256 ∷ x / 281474976710656 % 256 ∷ x / 1099511627776 % 256 ∷ x / 4294967296 % 256
    ∷ x / 16777216 % 256
    ∷ x / 65536 % 256
    ∷ x / 256 % 256
    ∷ x % 256
    ∷ []

-- how many bytes of zeros the padding of a message of n bytes has: as few as leave eight bytes of its last block
abbrev pub zeros : ℕ → ℕ
zeros n = (119 - n % 64) % 64

-- the padding of a message of n bytes: the bit 1 and seven bits 0, the zeros, and the message's length in bits, modulo 2 ^ 64
unfoldable pub padding : ℕ → List ℕ
padding n = 128 ∷ replicate (zeros n) 0 ++ eight_bytes (8 * n % 2 ^ 64)

-- the message with its padding
abbrev pub padded : List ℕ → List ℕ
padded message = message ++ padding (length message)
