-- The bits of bytes. Bits are numbers 0 and 1. Assumes nothing: these are definitions.
use Rattle.std.specs.Prelude.{ℕ, ◌/◌, ◌%◌, ◌<◌, List, [], ◌∷◌, ◌++◌, length, slice_index}

-- the bits of a byte, the highest first
abbrev pub byte_bits : ℕ → List ℕ
byte_bits b = b / 128 % 2 ∷ b / 64 % 2 ∷ b / 32 % 2 ∷ b / 16 % 2 ∷ b / 8 % 2 ∷ b / 4 % 2 ∷ b / 2 % 2 ∷ b / 1 % 2 ∷ []

-- the bits of a row of bytes, byte by byte
unfoldable pub bits : List ℕ → List ℕ
bits [] = []
bits (b ∷ bs) = byte_bits b ++ bits bs

-- a row of numbers 0 and 1
unfoldable pub Bits : List ℕ → Type 0
Bits xs = (i : ℕ) → i < length xs → slice_index xs i < 2
