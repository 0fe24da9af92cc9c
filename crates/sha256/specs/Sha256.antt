-- The hash of a message of bytes: FIPS 180-4, sections 5.2.1 and 6.2.2.
-- Assumes nothing.
use Rattle.std.specs.Prelude.{ℕ, zero, suc, ◌*◌, ◌/◌, ◌%◌, List, [], ◌∷◌, length, take, drop}
use Rattle.std.specs.List.{flat_map}
use Rattle.sha256.specs.declared.state.State.{State}
use Rattle.sha256.specs.Padding.{padded}
use Rattle.sha256.specs.Rounds.{initial, rounds, summed}
use Rattle.sha256.specs.Schedule.{schedule}

-- the hash value after one more block
unfoldable pub compressed : State → List ℕ → State
compressed s block = summed s (rounds 64 (schedule 48 block) s)

-- the block at the place n of some bytes
abbrev pub block_at : ℕ → List ℕ → List ℕ
block_at n bytes = take 64 (drop (n * 64) bytes)

-- the hash value after the first n blocks of some bytes
unfoldable pub after : ℕ → List ℕ → State
after zero bytes = initial
after (suc n) bytes = compressed (after n bytes) (block_at n bytes)

-- a word in four bytes, the highest first
abbrev pub four_bytes : ℕ → List ℕ
four_bytes x = x / 16777216 % 256 ∷ x / 65536 % 256 ∷ x / 256 % 256 ∷ x % 256 ∷ []

-- the eight words of a hash value, and their bytes one after another
abbrev pub words_of : State → List ℕ
words_of s = s.a ∷ s.b ∷ s.c ∷ s.d ∷ s.e ∷ s.f ∷ s.g ∷ s.h ∷ []

unfoldable pub bytes_of : State → List ℕ
bytes_of s = flat_map four_bytes (words_of s)

-- the hash of a message: the hash value after all the blocks of the padded message
unfoldable pub sha256 : List ℕ → List ℕ
sha256 message = bytes_of (after (length (padded message) / 64) (padded message))
