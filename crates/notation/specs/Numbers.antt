-- Decimal numbers read, and numbers as bytes. Assumes nothing.
use Rattle.std.specs.Prelude.{ℕ, ◌+◌, ◌-◌, ◌*◌, ◌/◌, ◌%◌, cond, ◌&&◌, List, [], ◌∷◌, Some, None, Option, option_and_then, nat_lt}
use Rattle.std.specs.Char.{is_ascii_digit}

-- one digit more, if the number stays below 65536
abbrev pub digit_more : ℕ → ℕ → Option ℕ
digit_more n c = cond (is_ascii_digit c && nat_lt (10 * n + (c - 48)) 65536) (Some (10 * n + (c - 48))) None

unfoldable pub number_from : ℕ → List ℕ → Option ℕ
number_from n [] = Some n
number_from n (c ∷ cs) = option_and_then (λ m. number_from m cs) (digit_more n c)

-- the number below 65536 that the digits write, at least one of them
abbrev pub number : List ℕ → Option ℕ
number [] = None
number (c ∷ cs) = number_from 0 (c ∷ cs)

-- a number below 65536 as two bytes, low byte first
abbrev pub two_bytes : ℕ → List ℕ
two_bytes n = n % 256 ∷ n / 256 ∷ []
