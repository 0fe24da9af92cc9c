-- The bytes of a step that a line says. Assumes nothing.
use Rattle.std.specs.Prelude.{◌≡◌, ℕ, ◌<◌, ◌≤◌, List, [], ◌∷◌, ◌++◌, length, Some, None, Option, Result, MatchResult}
use Rattle.output.specs.Writes.{Writes}
use Rattle.output.specs.declared.Output.{Output}
use Rattle.step_file.specs.File.{step_bytes}
use Rattle.notation.specs.declared.faults.Fault.{Fault}
use Rattle.notation.specs.declared.faults.Fault.TheVariants.{LongStep}
use Rattle.notation.specs.declared.step.Body.{Body}
use Rattle.notation.specs.declared.step.Body.TheVariants.{Bytes, Digits, Number}
use Rattle.notation.specs.declared.step.Told.{Told}
use Rattle.notation.specs.Hex.{bytes_of}
use Rattle.notation.specs.Numbers.{two_bytes}

abbrev pub body_bytes : Body → List ℕ
body_bytes (Bytes bytes) = bytes.now
body_bytes (Digits digits) = bytes_of digits.now
body_bytes (Number n) = two_bytes n

abbrev pub party_bytes : Option ℕ → List ℕ
party_bytes None = []
party_bytes (Some party) = party ∷ []

abbrev pub step_told : Told → List ℕ
step_told told = party_bytes told.party ++ body_bytes told.body

-- a step is written if it has at most 65535 bytes, and else nothing is
abbrev pub PutsStep : Told → Output → Output → Result (Unit {0}) Fault → Type 0
PutsStep told old new r =
    MatchResult r
    (λ _. (length (step_told told) < 65536) × Writes old new (step_bytes (told.kind, step_told told)))
    (λ why. (65536 ≤ length (step_told told)) × (why ≡ LongStep) × (new ≡ old))
