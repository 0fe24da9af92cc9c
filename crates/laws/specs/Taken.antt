-- Which steps of a run are taken. Assumes nothing.
use Rattle.std.specs.Prelude.{ℕ, List, [], ◌∷◌, Some, None, Option}
use Rattle.refusals.specs.declared.Refusal.{Refusal}
use Rattle.ceremony.specs.Draws.{State, step}

-- the kind of a step, if it was taken
abbrev pub if_taken : ℕ → Option Refusal → List ℕ → List ℕ
if_taken kind None rest = kind ∷ rest
if_taken kind (Some why) rest = rest

-- the kinds of the steps that are taken from a state on, in their order
unfoldable pub taken_kinds : State → List (ℕ × List ℕ) → List ℕ
taken_kinds s [] = []
taken_kinds s (x ∷ xs) = if_taken x.0 (step s x.0 x.1).1 (taken_kinds (step s x.0 x.1).0 xs)
