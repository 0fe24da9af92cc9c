-- A whole file of steps. Assumes nothing.
use Rattle.std.specs.Prelude.{ℕ, zero, suc, ◌/◌, ◌%◌, Bool, true, false, List, [], ◌∷◌, length}
use Rattle.std.specs.List.{flat_map}
use Rattle.step_file.specs.Reading.{Found, end, cut, step, first_step}

abbrev pub more_steps : (List ℕ → List (ℕ × List ℕ)) → Found → List (ℕ × List ℕ)
more_steps f end = []
more_steps f cut = []
more_steps f (step kind x rest) = (kind, x) ∷ f rest

abbrev pub more_cut : (List ℕ → Bool) → Found → Bool
more_cut f end = false
more_cut f cut = true
more_cut f (step kind x rest) = f rest

-- the whole steps of a file, each by its kind and its bytes; n bounds their number
unfoldable pub steps_of : ℕ → List ℕ → List (ℕ × List ℕ)
steps_of zero file = []
steps_of (suc n) file = more_steps (λ rest. steps_of n rest) (first_step file)

-- whether the file ends inside a step
unfoldable pub cut_in : ℕ → List ℕ → Bool
cut_in zero file = false
cut_in (suc n) file = more_cut (λ rest. cut_in n rest) (first_step file)

-- no step is shorter than its kind and its length, so a file has no more steps than bytes
abbrev pub file_steps : List ℕ → List (ℕ × List ℕ)
file_steps file = steps_of (length file) file

abbrev pub file_cut : List ℕ → Bool
file_cut file = cut_in (length file) file

-- a step as it stands in a file: its kind, the two bytes of its length, low byte first, and its bytes
abbrev pub step_bytes : ℕ × List ℕ → List ℕ
step_bytes (kind, x) = kind ∷ length x % 256 ∷ length x / 256 ∷ x

-- the file of a list of steps
abbrev pub file_of : List (ℕ × List ℕ) → List ℕ
file_of ss = flat_map step_bytes ss
