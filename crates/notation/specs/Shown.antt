-- A file of steps as text. Assumes nothing.
use Rattle.std.specs.Prelude.{◌≡◌, ℕ, ◌+◌, ◌*◌, true, false, cond, List, [], ◌∷◌, ◌++◌, length, drop, Ok, Err, Result, codes, decimal, ◌==◌, nat_lt, slice_index}
use Rattle.std.specs.List.{flat_map}
use Rattle.names_text.specs.Text.{is_text}
use Rattle.output.specs.Hex.{hex}
use Rattle.output.specs.Writes.{Writes}
use Rattle.output.specs.declared.Output.{Output}
use Rattle.step_file.specs.declared.CutShort.{CutShort}
use Rattle.step_file.specs.File.{file_steps, file_cut}
use Rattle.notation.specs.declared.forms.Form.{Form}
use Rattle.notation.specs.declared.forms.Form.TheVariants.{Entry, EntryHex, CloseList, Seal, CloseSeals, Opening, Close, StepHex}
use Rattle.notation.specs.Forms.{words}

-- an entry is shown as text if it is, and by its bytes if it has some
abbrev pub form_entry : List ℕ → Form
form_entry x = cond (is_text x) Entry (cond (nat_lt 0 (length x)) EntryHex StepHex)

-- the form that shows a step: the first that fits
abbrev pub form_shown : ℕ → List ℕ → Form
form_shown kind x =
    cond (kind == 1) (form_entry x)
    (cond (kind == 2) (cond (length x == 2) CloseList StepHex)
    (cond (kind == 3) (cond (length x == 32) Seal StepHex)
    (cond (kind == 4) (cond (length x == 0) CloseSeals StepHex)
    (cond (kind == 5) (cond (nat_lt 1 (length x)) Opening StepHex)
    (cond (kind == 6) (cond (length x == 0) Close StepHex) StepHex)))))

-- what stands behind the words of a form
abbrev pub rest_shown : Form → ℕ → List ℕ → List ℕ
rest_shown Entry kind x = x
rest_shown EntryHex kind x = hex x
rest_shown CloseList kind x = decimal (slice_index x 0 + 256 * slice_index x 1)
rest_shown Seal kind x = hex x
rest_shown CloseSeals kind x = []
rest_shown Opening kind x = decimal (slice_index x 0) ++ (codes " " ++ hex (drop 1 x))
rest_shown Close kind x = []
rest_shown StepHex kind x = hex (kind ∷ x)

-- a line a step
abbrev pub line_shown : ℕ × List ℕ → List ℕ
line_shown (kind, x) = words (form_shown kind x) ++ (rest_shown (form_shown kind x) kind x ++ codes "\n")

abbrev pub text_of : List ℕ → List ℕ
text_of file = flat_map line_shown (file_steps file)

-- the text is written; where the file ends inside a step, only that is told
abbrev pub ShowsWhole : List ℕ → Output → Output → Result (Unit {0}) CutShort → Type 0
ShowsWhole file old new (Ok u) = (file_cut file ≡ false) × Writes old new (text_of file)
ShowsWhole file old new (Err e) = (file_cut file ≡ true) × (new ≡ old)

-- one pass over a file, which may have written the lines before the place where the file ends
abbrev pub Shows : List ℕ → Output → Output → Result (Unit {0}) CutShort → Type 0
Shows file old new (Ok u) = (file_cut file ≡ false) × Writes old new (text_of file)
Shows file old new (Err e) = (file_cut file ≡ true) × (new.memory.ghost_name ≡ old.memory.ghost_name)
