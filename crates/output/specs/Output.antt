-- Bytes written one after another into memory that may be full. Assumes nothing.
use Rattle.std.specs.Prelude.{ℕ, ◌+◌, cond, List, [], ◌∷◌, length, nat_lt, slice_set}

-- memory and the place of the next byte: the byte is set, and the place moves on; full memory stays as it is
abbrev pub put_byte : List ℕ × ℕ → ℕ → List ℕ × ℕ
put_byte m b = cond (nat_lt m.1 (length m.0)) (slice_set m.0 m.1 b, m.1 + 1) m

-- byte after byte
unfoldable pub put : List ℕ × ℕ → List ℕ → List ℕ × ℕ
put m [] = m
put m (b ∷ bs) = put (put_byte m b) bs
