-- The lines of a text. Assumes nothing.
use Rattle.std.specs.Prelude.{ℕ, ◌-◌, Bool, cond, ◌||◌, List, [], ◌∷◌, length, take, ◌==◌, slice_index}
use Rattle.std.specs.List.{list_all}

-- a byte put before the first line
abbrev pub onto_first : ℕ → List (List ℕ) → List (List ℕ)
onto_first b [] = (b ∷ []) ∷ []
onto_first b (l ∷ ls) = (b ∷ l) ∷ ls

-- a line ends with a byte 10; a last line without one counts too
unfoldable pub lines : List ℕ → List (List ℕ)
lines [] = []
lines (b ∷ bs) = cond (b == 10) ([] ∷ lines bs) (onto_first b (lines bs))

-- a carriage return at the end of a line is passed over
abbrev pub without_return : List ℕ → List ℕ
without_return line = cond (slice_index line (length line - 1) == 13) (take (length line - 1) line) line

abbrev pub is_space : ℕ → Bool
is_space b = b == 32 || b == 9

-- nothing but spaces and tabs
abbrev pub is_blank : List ℕ → Bool
is_blank line = list_all is_space line
