-- Hexadecimal digits read, of either case. Assumes nothing.
use Rattle.std.specs.Prelude.{ℕ, ◌+◌, ◌*◌, ◌%◌, Bool, cond, ◌&&◌, List, [], ◌∷◌, length, ◌==◌, nat_lt}
use Rattle.std.specs.Char.{digit_value as value_of, is_ascii_hexdigit}
use Rattle.std.specs.List.{list_all}

-- the value of a digit; any other byte counts as 0
abbrev pub digit_value : ℕ → ℕ
digit_value c = cond (nat_lt (value_of c) 16) (value_of c) 0

-- nothing but digits
abbrev pub all_digits : List ℕ → Bool
all_digits ds = list_all is_ascii_hexdigit ds

-- digits that make whole bytes
abbrev pub are_pairs : List ℕ → Bool
are_pairs ds = length ds % 2 == 0 && all_digits ds

abbrev pub pair_value : ℕ → ℕ → ℕ
pair_value c d = 16 * digit_value c + digit_value d

-- two digits to a byte, the high one first
unfoldable pub bytes_of : List ℕ → List ℕ
bytes_of [] = []
bytes_of (c ∷ []) = []
bytes_of (c ∷ d ∷ ds) = pair_value c d ∷ bytes_of ds
