-- A run: steps one after another. Assumes nothing.
use Rattle.std.specs.Prelude.{ℕ, ◌+◌, List, [], ◌∷◌, Some, None, Option}
use Rattle.std.specs.List.{flat_map}
use Rattle.refusals.specs.declared.Refusal.{Refusal}
use Rattle.ceremony.specs.Draws.{State, step}
use Rattle.texts.specs.Lines.{refusal_line}

-- the state after steps
unfoldable pub after_steps : State → List (ℕ × List ℕ) → State
after_steps s [] = s
after_steps s (x ∷ xs) = after_steps (step s x.0 x.1).0 xs

-- the steps that are refused, each with its number and why; n is the number of the first step
abbrev pub refused_at : ℕ → Option Refusal → List (ℕ × Refusal) → List (ℕ × Refusal)
refused_at n None rest = rest
refused_at n (Some why) rest = (n, why) ∷ rest

unfoldable pub refusals_in : State → ℕ → List (ℕ × List ℕ) → List (ℕ × Refusal)
refusals_in s n [] = []
refusals_in s n (x ∷ xs) = refused_at n (step s x.0 x.1).1 (refusals_in (step s x.0 x.1).0 (n + 1) xs)

-- a line for each
abbrev pub line_of : ℕ → Option Refusal → List ℕ
line_of n None = []
line_of n (Some why) = refusal_line n why

abbrev pub refusal_lines : List (ℕ × Refusal) → List ℕ
refusal_lines rs = flat_map (λ r. refusal_line r.0 r.1) rs
