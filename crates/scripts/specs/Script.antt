-- A script: a draw as it should go, and its file of steps. Assumes nothing.
use Rattle.std.specs.Prelude.{◌≡◌, ℕ, ◌+◌, ◌<◌, ◌≤◌, Bool, false, ◌||◌, List, [], ◌∷◌, ◌++◌, map, length, drop, ◌==◌, ◌≢◌, slice_index, slice_index_or}
use Rattle.std.specs.List.Sorted.{IsPermutation}
use Rattle.std.specs.List.{ContainsAt as Has}
use Rattle.sha256.specs.Sha256.{sha256}
use Rattle.entries.specs.Rows.{packed_rows, longest_name, most_names}
use Rattle.listing.specs.Listing.{Sorted}
use Rattle.seals.specs.Seal.{seal_of}
use Rattle.seals.specs.Steps.{most_parties}
use Rattle.ceremony.specs.Steps.{shortest, longest}
use Rattle.protocol.specs.Protocol.{word}

-- the list of names, and the same names in the order in which they are entered; how many bytes each party puts in; for each party its seal, and its opening, 32
-- bytes and its bits; and the parties whose openings come, in the order in which they come. The opening of a party whose opening does not come is of no account
pub record Script : Type 0 where
  pub names : List (List ℕ)
  pub entered : List (List ℕ)
  pub len : ℕ
  pub seals : List (List ℕ)
  pub openings : List (List ℕ)
  pub comes : List ℕ

-- the list's hash
abbrev pub hash_of : Script → List ℕ
hash_of s = sha256 (packed_rows s.names)

-- 1 to 2,000 names of 1 to 64 bytes, none twice; 64 to 8,192 bytes from each of 1 to 255 parties, each with a seal of 32 bytes; and at least one opening, of each
-- party one at most, that gives the party's seal
pub record Right (s : Script) : Type 0 where
  pub some_names : 0 < length s.names
  pub few_names : length s.names ≤ most_names
  pub each_name : (x : List ℕ) → Has s.names x → (0 < length x) × (length x ≤ longest_name)
  pub sorted : Sorted s.names
  pub same_names : IsPermutation s.names s.entered
  pub enough_bits : shortest ≤ s.len
  pub few_bits : s.len ≤ longest
  pub some_parties : 0 < length s.seals
  pub few_parties : length s.seals ≤ most_parties
  pub as_many : length s.openings ≡ length s.seals
  pub each_seal : (k : ℕ) → k < length s.seals → length (slice_index_or s.seals k []) ≡ 32
  pub some_comes : 0 < length s.comes
  pub each_comes : (i : ℕ) → i < length s.comes → slice_index s.comes i < length s.seals
  pub comes_once : (i j : ℕ) → i < j → j < length s.comes → slice_index s.comes i ≢ slice_index s.comes j
  pub each_opening : (i : ℕ) → i < length s.comes → length (slice_index_or s.openings (slice_index s.comes i) []) ≡ 32 + s.len
  pub gives : (i : ℕ) → i < length s.comes
      → seal_of (hash_of s) (slice_index s.comes i) (slice_index_or s.openings (slice_index s.comes i) []) ≡ slice_index_or s.seals (slice_index s.comes i) []

-- a seal as a step
abbrev pub seal_step_of : List ℕ → ℕ × List ℕ
seal_step_of x = (3, x)

-- the openings of parties
unfoldable pub opening_steps : List (List ℕ) → List ℕ → List (ℕ × List ℕ)
opening_steps openings [] = []
opening_steps openings (k ∷ ks) = (5, k ∷ slice_index_or openings k []) ∷ opening_steps openings ks

-- the entries, the close of the list, the seals, their close, the openings, the final close
abbrev pub entry_of : List ℕ → ℕ × List ℕ
entry_of x = (1, x)

abbrev pub script_steps : Script → List (ℕ × List ℕ)
script_steps s =
    map entry_of s.entered
    ++ ((2, word s.len) ∷ (map seal_step_of s.seals ++ ((4, []) ∷ (opening_steps s.openings s.comes ++ ((6, []) ∷ [])))))

-- the bits of the openings that come
abbrev pub row_of : List (List ℕ) → ℕ → List ℕ
row_of openings k = drop 32 (slice_index_or openings k [])

abbrev pub rows_of : Script → List (List ℕ)
rows_of s = map (row_of s.openings) s.comes

-- whether a number stands in a list
abbrev pub among : ℕ → List ℕ → Bool
among j [] = false
among j (k ∷ ks) = j == k || among j ks
