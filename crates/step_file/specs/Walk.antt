-- A file of steps as an iterator gives it. Assumes nothing.
use Rattle.std.specs.Prelude.{◌≡◌, true, false, [], ◌∷◌, Option, Result, MatchOption, MatchResult}
use Rattle.step_file.specs.declared.CutShort.{CutShort}
use Rattle.step_file.specs.declared.Step.{Step}
use Rattle.step_file.specs.declared.Steps.{Steps}
use Rattle.step_file.specs.File.{file_steps, file_cut}

-- a step is the first of those left; behind the last of them comes an error where the file is cut short, and then nothing
abbrev pub GivesStep : Steps → Option (Result Step CutShort) → Steps → Type 0
GivesStep s r t =
    MatchOption r ((file_steps s.rest.now ≡ []) × (file_cut s.rest.now ≡ false) × (t ≡ s))
    (λ item. MatchResult item
    (λ step. (file_steps s.rest.now ≡ (step.kind, step.bytes.now) ∷ file_steps t.rest.now) × (file_cut s.rest.now ≡ file_cut t.rest.now))
    (λ _. (file_steps s.rest.now ≡ []) × (file_cut s.rest.now ≡ true) × (file_steps t.rest.now ≡ []) × (file_cut t.rest.now ≡ false)))
