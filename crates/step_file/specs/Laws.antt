-- What is written as a file of steps is read again. Assumes nothing.
use Rattle.std.specs.Prelude.{◌≡◌, ℕ, ◌<◌, false, List, [], ◌∷◌, length}
use Rattle.step_file.specs.File.{file_steps, file_cut, file_of}

-- the length of each step fits its two bytes
abbrev pub Short : List (ℕ × List ℕ) → Type 0
Short [] = Unit {0}
Short (s ∷ ss) = (length s.1 < 65536) × Short ss

-- the file of a list of steps reads as just those steps, and does not end inside one
abbrev pub ReadAgain : Type 0
ReadAgain = (ss : List (ℕ × List ℕ)) → Short ss → (file_steps (file_of ss) ≡ ss) × (file_cut (file_of ss) ≡ false)
