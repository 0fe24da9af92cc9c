-- A file that is shown is read again. Assumes nothing.
use Rattle.std.specs.Prelude.{◌≡◌, ℕ, ◌<◌, false, List, [], slice_index}
use Rattle.step_file.specs.File.{file_cut}
use Rattle.notation.specs.Read.{read_text, written}
use Rattle.notation.specs.Shown.{text_of}

abbrev pub AreBytes : List ℕ → Type 0
AreBytes xs = (i : ℕ) → slice_index xs i < 256

-- the text of a whole file of steps, read with no files beside it, writes just that file
abbrev pub ShownRead : Type 0
ShownRead = (file : List ℕ) → AreBytes file → file_cut file ≡ false → read_text (text_of file) [] ≡ written file

-- what a text writes is a whole file of steps, which does not end inside one
abbrev pub WholeRead : List ℕ → List ℕ → Type 0
WholeRead text files = (x : List ℕ) → read_text text files ≡ written x → file_cut x ≡ false
