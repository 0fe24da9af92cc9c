-- What reading does to an output. Assumes nothing.
use Rattle.std.specs.Prelude.{◌≡◌, ℕ, List, Ok, Err, Result}
use Rattle.output.specs.Writes.{Writes}
use Rattle.output.specs.declared.Output.{Output}
use Rattle.step_file.specs.File.{file_steps, step_bytes}
use Rattle.step_file.specs.declared.Steps.{Steps}
use Rattle.notation.specs.declared.faults.Fault.{Fault}
use Rattle.notation.specs.declared.faults.BadLine.{BadLine}
use Rattle.notation.specs.Meanings.{Meaning, nothing, step, file, bad}
use Rattle.notation.specs.Read.{filled, Answer, written, wrong}

-- a line is written, or is found to be bad
abbrev pub PutsLine : Meaning → Output → Output → Result (Unit {0}) Fault → Type 0
PutsLine nothing old new r = (r ≡ Ok tt) × (new ≡ old)
PutsLine (step kind x) old new r = (r ≡ Ok tt) × Writes old new (step_bytes (kind, x))
PutsLine (file party path) old new r = (r ≡ Ok tt) × (new ≡ old)
PutsLine (bad why) old new r = (r ≡ Err why) × (new ≡ old)

-- with the files that are left
abbrev pub ReadsLine : Meaning → Steps → Steps → Output → Output → Result (Unit {0}) Fault → Type 0
ReadsLine meaning files left old new r =
    PutsLine (filled (file_steps files.rest.now) meaning).0 old new r × (file_steps left.rest.now ≡ (filled (file_steps files.rest.now) meaning).1)

-- the file that a text writes is written; on a bad line, only that is told
abbrev pub ReadsWhole : Answer → Output → Output → Result (Unit {0}) BadLine → Type 0
ReadsWhole answer old new (Ok u) = (x : List ℕ) × (answer ≡ written x) × Writes old new x
ReadsWhole answer old new (Err b) = (answer ≡ wrong b.line b.fault) × (new ≡ old)

-- one pass over a text, which may have written the steps before the first bad line
abbrev pub Reads : Answer → Output → Output → Result (Unit {0}) BadLine → Type 0
Reads answer old new (Ok u) = (x : List ℕ) × (answer ≡ written x) × Writes old new x
Reads answer old new (Err b) = (answer ≡ wrong b.line b.fault) × (new.memory.ghost_name ≡ old.memory.ghost_name)
