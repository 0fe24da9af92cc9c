-- Hexadecimal digits written byte after byte. Assumes nothing.
use Rattle.std.proofs.Common.{◌≡◌, ℕ, ◌+◌, ◌/◌, ◌%◌, ◌<◌, List, [], ◌∷◌, ◌++◌, length, get_or, take, refl, ap, ◌∙◌}
use Rattle.std.proofs.lemmas.List.{take_more}
use Rattle.output.specs.Hex.{hex, hex_digit}

pub hex_append : (xs ys : List ℕ) → hex (xs ++ ys) ≡ hex xs ++ hex ys
unfolding hex
hex_append [] ys = refl
hex_append (x ∷ xs) ys = ap (λ (z : List ℕ). hex_digit (x / 16) ∷ hex_digit (x % 16) ∷ z) (hex_append xs ys)

-- the digits of one byte more
pub hex_more : (xs : List ℕ) (i : ℕ) → i < length xs
    → hex (take (i + 1) xs) ≡ hex (take i xs) ++ (hex_digit (get_or xs i 0 / 16) ∷ hex_digit (get_or xs i 0 % 16) ∷ [])
unfolding hex
hex_more xs i l = ap hex (take_more xs i 0 l) ∙ hex_append (take i xs) (get_or xs i 0 ∷ [])
