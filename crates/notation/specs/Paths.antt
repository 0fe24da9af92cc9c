-- The lines of a text that name a file. Assumes nothing.
use Rattle.std.specs.Prelude.{◌≡◌, ℕ, ◌+◌, ◌-◌, ◌≤◌, List, [], ◌∷◌, length, take, drop, Some, None, Option}
use Rattle.std.specs.List.{All}
use Rattle.notation.specs.Lines.{lines, without_return}
use Rattle.notation.specs.Meanings.{Meaning, nothing, step, file, bad, meaning}

-- a file that a line names: its path, the places in the text where the path begins and ends, and the place behind the line
pub record Named : Type 0 where
  pub path : List ℕ
  pub start : ℕ
  pub end : ℕ
  pub next : ℕ

abbrev pub named : Meaning → Option (List ℕ)
named nothing = None
named (step kind x) = None
named (file party path) = Some path
named (bad why) = None

-- the path that a line names
abbrev pub path_of : List ℕ → Option (List ℕ)
path_of line = named (meaning line)

-- a line that names a file ends with its path; any other leaves it to the rest
abbrev pub named_then : ℕ → ℕ → List Named → Option (List ℕ) → List Named
named_then end next rest None = rest
named_then end next rest (Some path) = record { path = path; start = end - length path; end = end; next = next } ∷ rest

-- the files that the lines name, the lines standing from a place on; behind a last line that has no byte 10 the place is
-- one past the end
unfoldable pub named_from : ℕ → List (List ℕ) → List Named
named_from at [] = []
named_from at (l ∷ ls) = named_then (at + length (without_return l)) (at + (length l + 1)) (named_from (at + (length l + 1)) ls) (path_of (without_return l))

-- the files that the lines of a text name from a place on
abbrev pub named_at : List ℕ → ℕ → List Named
named_at text at = named_from at (lines (drop at text))

-- what stands between the places is the path of a line that names a file
abbrev pub There : List ℕ → Named → Type 0
There text f =
    (f.start ≤ f.end) × (f.end ≤ length text) × (f.path ≡ take (f.end - f.start) (drop f.start text))
    × (party : ℕ) × (line : List ℕ) × (meaning line ≡ file party f.path)

abbrev pub NamedThere : List ℕ → Type 0
NamedThere text = (at : ℕ) → All (There text) (named_at text at)
