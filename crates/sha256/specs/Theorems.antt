-- What is proved of the definitions, in the words of the subject.
-- Assumes nothing.
use Rattle.std.specs.Prelude.{◌≡◌, ℕ, ◌+◌, ◌*◌, ◌%◌, ◌<◌, ◌≤◌, List, [], ◌∷◌, ◌++◌, length, slice_index}
use Rattle.sha256.specs.declared.stream.Hasher.{Hasher}
use Rattle.sha256.specs.Absorbed.{fresh, absorbed, finished}
use Rattle.sha256.specs.Padding.{zeros, padded}
use Rattle.sha256.specs.Sha256.{sha256}

-- the published hash of no bytes, and of "abc"
abbrev pub HashOfNothing : Type 0
HashOfNothing =
    sha256 []
    ≡ 0xe3 ∷ 0xb0 ∷ 0xc4 ∷ 0x42 ∷ 0x98 ∷ 0xfc ∷ 0x1c ∷ 0x14 ∷ 0x9a ∷ 0xfb ∷ 0xf4 ∷ 0xc8 ∷ 0x99 ∷ 0x6f ∷ 0xb9 ∷ 0x24 ∷ 0x27
    ∷ 0xae ∷ 0x41 ∷ 0xe4 ∷ 0x64 ∷ 0x9b ∷ 0x93 ∷ 0x4c ∷ 0xa4 ∷ 0x95 ∷ 0x99 ∷ 0x1b ∷ 0x78 ∷ 0x52 ∷ 0xb8 ∷ 0x55 ∷ []

abbrev pub HashOfAbc : Type 0
HashOfAbc =
    sha256 (97 ∷ 98 ∷ 99 ∷ [])
    ≡ 0xba ∷ 0x78 ∷ 0x16 ∷ 0xbf ∷ 0x8f ∷ 0x01 ∷ 0xcf ∷ 0xea ∷ 0x41 ∷ 0x41 ∷ 0x40 ∷ 0xde ∷ 0x5d ∷ 0xae ∷ 0x22 ∷ 0x23 ∷ 0xb0
    ∷ 0x03 ∷ 0x61 ∷ 0xa3 ∷ 0x96 ∷ 0x17 ∷ 0x7a ∷ 0x9c ∷ 0xb4 ∷ 0x10 ∷ 0xff ∷ 0x61 ∷ 0xf2 ∷ 0x00 ∷ 0x15 ∷ 0xad ∷ []

-- a padded message is whole blocks
abbrev pub WholeBlocks : Type 0
WholeBlocks = (m : List ℕ) → length (padded m) % 64 ≡ 0

-- after the bit 1, a message of n bytes gets k = 7 + 8 * zeros n bits 0, and that is the least k with 8 * n + 1 + k equal to 448
-- modulo 512
abbrev pub LeastZeros : Type 0
LeastZeros =
    (n : ℕ)
    → ((8 * n + 1 + (7 + 8 * zeros n)) % 512 ≡ 448)
    × ((k : ℕ) → (8 * n + 1 + k) % 512 ≡ 448 → 7 + 8 * zeros n ≤ k)

-- a hash is 32 bytes
abbrev pub HashIsBytes : Type 0
HashIsBytes = (m : List ℕ) → (length (sha256 m) ≡ 32) × ((i : ℕ) → slice_index (sha256 m) i < 256)

-- two parts one after the other are as one
abbrev pub PartsJoin : Type 0
PartsJoin = (h : Hasher) (a b : List ℕ) → absorbed (absorbed h a) b ≡ absorbed h (a ++ b)

-- a hasher that has taken in a message ends with the message's hash
abbrev pub FinishesWithHash : Type 0
FinishesWithHash = (m : List ℕ) → finished (absorbed fresh m) ≡ sha256 m
