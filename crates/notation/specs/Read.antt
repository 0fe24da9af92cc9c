-- A text read as a file of steps. Assumes nothing.
use Rattle.std.specs.Prelude.{ℕ, ◌+◌, cond, List, [], ◌∷◌, ◌++◌, length, ◌==◌, nat_lt}
use Rattle.step_file.specs.File.{file_steps, step_bytes}
use Rattle.notation.specs.declared.faults.Fault.{Fault}
use Rattle.notation.specs.declared.faults.Fault.TheVariants.{NoOpening, LongStep, NoFile, LongFile}
use Rattle.notation.specs.Lines.{lines, without_return}
use Rattle.notation.specs.Meanings.{Meaning, nothing, step, file, bad, meaning}

-- the bytes of an opening from a file: at least one, and few enough for a step
abbrev pub from_file : ℕ → List ℕ → Meaning
from_file party x = cond (length x == 0) (bad NoOpening) (cond (nat_lt (length x) 65535) (step 5 (party ∷ x)) (bad LongFile))

-- a step has at most 65535 bytes
abbrev pub sized : ℕ → List ℕ → Meaning
sized kind x = cond (nat_lt (length x) 65536) (step kind x) (bad LongStep)

-- the next of the files, and those behind it
abbrev pub next_contents : ℕ → List (ℕ × List ℕ) → Meaning × List (ℕ × List ℕ)
next_contents party [] = (bad NoFile, [])
next_contents party (contents ∷ files) = (from_file party contents.1, files)

-- a line that names a file is filled with the next of the files
abbrev pub filled : List (ℕ × List ℕ) → Meaning → Meaning × List (ℕ × List ℕ)
filled files nothing = (nothing, files)
filled files (step kind x) = (sized kind x, files)
filled files (file party path) = next_contents party files
filled files (bad why) = (bad why, files)

-- the file that a text writes, or the number of its first bad line and what is wrong there
pub data Answer : Type 0 where
  written : List ℕ → Answer
  wrong : ℕ → Fault → Answer

-- bytes written before an answer
abbrev pub before : List ℕ → Answer → Answer
before x (written y) = written (x ++ y)
before x (wrong n why) = wrong n why

-- one line, and then the rest of them
abbrev pub line_then : ℕ → (List (ℕ × List ℕ) → Answer) → Meaning × List (ℕ × List ℕ) → Answer
line_then done rest (nothing, files) = rest files
line_then done rest (step kind x, files) = before (step_bytes (kind, x)) (rest files)
line_then done rest (file party path, files) = rest files
line_then done rest (bad why, files) = wrong (done + 1) why

-- the lines behind those that are done, with the files that are left
unfoldable pub read_lines : ℕ → List (List ℕ) → List (ℕ × List ℕ) → Answer
read_lines done [] files = written []
read_lines done (l ∷ ls) files = line_then done (λ left. read_lines (done + 1) ls left) (filled files (meaning (without_return l)))

-- the contents of the files stand in a file of steps
abbrev pub read_text : List ℕ → List ℕ → Answer
read_text text files = read_lines 0 (lines text) (file_steps files)
