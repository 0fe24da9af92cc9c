-- The message schedule of a block of 64 bytes: FIPS 180-4, sections 5.2.1 and 6.2.2, step 1.
-- Assumes nothing.
use Rattle.std.specs.Prelude.{ℕ, zero, suc, ◌+◌, ◌*◌, List, [], ◌∷◌, ◌++◌, slice_index}
use Rattle.sha256.specs.Words.{plus, small_sigma0, small_sigma1}

-- the word at the place t of a block: four bytes, the highest first
abbrev pub word : List ℕ → ℕ → ℕ
word block t = slice_index block (4 * t) * 16777216 + slice_index block (4 * t + 1) * 65536 + slice_index block (4 * t + 2) * 256 + slice_index block (4 * t + 3)

-- the first n words of a block
unfoldable pub first_words : ℕ → List ℕ → List ℕ
first_words zero block = []
first_words (suc n) block = first_words n block ++ word block n ∷ []

-- the word at the place t + 16 of the schedule, from those 2, 7, 15 and 16 places before it
unfoldable pub next : ℕ → List ℕ → ℕ
next t ws =
    plus (plus (plus (small_sigma1 (slice_index ws (t + 14))) (slice_index ws (t + 9))) (small_sigma0 (slice_index ws (t + 1))))
    (slice_index ws t)

-- the first n + 16 words ws of the schedule, and the one after them
unfoldable pub longer : ℕ → List ℕ → List ℕ
longer n ws = ws ++ next n ws ∷ []

-- the first n + 16 words of a block's schedule: its own sixteen, and each other from those before it
unfoldable pub schedule : ℕ → List ℕ → List ℕ
schedule zero block = first_words 16 block
schedule (suc n) block = longer n (schedule n block)
