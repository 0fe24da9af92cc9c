-- Bytes parted at the first of a value, and the lines of a text. Assumes nothing.
use Rattle.std.proofs.Common.{◌≡◌, ℕ, suc, ◌+◌, ◌<◌, Bool, true, false, cond, not, eqb, List, [], ◌∷◌, length, take, drop, refl, ap, ◌∙◌, arith}
use native.Mathlib.Numerals.{unary_clauses}
use Rattle.std.specs.List.{position_or_len, before_first, after_first}
use Rattle.notation.specs.Lines.{onto_first, lines}

abbrev is_end : ℕ → Bool
is_end b = eqb b 10

one-suc : (n : ℕ) → 1 + n ≡ suc n
one-suc n = omega arith

-- the first line is what stands before the first byte 10, and the others stand behind it
pub first_line : (bs : List ℕ) → 0 < length bs → lines bs ≡ before_first is_end bs ∷ lines (after_first is_end bs)
unfolding lines
first_line [] l = absurd (omega arith)
first_line (b ∷ bs) l = go (eqb b 10) bs (first_line bs)
  where
    go : (t : Bool) (rest : List ℕ) → (0 < length rest → lines rest ≡ before_first is_end rest ∷ lines (after_first is_end rest))
        → cond t ([] ∷ lines rest) (onto_first b (lines rest)) ≡ take (cond (not t) (1 + position_or_len is_end rest) 0) (b ∷ rest) ∷ lines (drop (cond (not t) (1 + position_or_len is_end rest) 0 + 1) (b ∷ rest))
    go true rest h = refl
    go false [] h = refl
    go false (c ∷ rest) h = ap (onto_first b) (h (omega arith)) ∙ simp (unary_clauses, one-suc (position_or_len is_end (c ∷ rest)))
