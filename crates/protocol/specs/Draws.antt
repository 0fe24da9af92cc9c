-- What a protocol of a draw is, in the words of the draw, and what the check of protocols promises. Assumes nothing.
use Rattle.std.specs.Prelude.{◌≡◌, ℕ, ◌+◌, ◌<◌, ◌≤◌, List, [], length, IfSome, None, Option, slice_index, slice_index_or}
use Rattle.sha256.specs.Sha256.{sha256}
use Rattle.entries.specs.Rows.{packed_rows, longest_name, most_names}
use Rattle.seals.specs.Seal.{seal_of}
use Rattle.seals.specs.Steps.{most_parties}
use Rattle.listing.specs.Listing.{Sorted}
use Rattle.protocol.specs.Protocol.{Party, Protocol, written, openings, drawing_from, ordered}
use Rattle.protocol.specs.Check.{Verdict, accepted}

-- a row of bytes: numbers below 256
abbrev pub Bytes : List ℕ → Type 0
Bytes xs = (i : ℕ) → slice_index xs i < 256

-- a name has 1 to 64 bytes
pub record Name (x : List ℕ) : Type 0 where
  pub some : 0 < length x
  pub short : length x ≤ longest_name
  pub bytes : Bytes x

-- an opening has 32 bytes and the L bytes that each party puts in, and gives the party's seal with the list's hash and the party's number
pub record Opening (hash : List ℕ) (L k : ℕ) (seal x : List ℕ) : Type 0 where
  pub long : length x ≡ 32 + L
  pub bytes : Bytes x
  pub gives : seal_of hash k x ≡ seal

-- a party has a seal of 32 bytes, and its opening, if it opened
pub record PartyOf (hash : List ℕ) (L k : ℕ) (p : Party) : Type 0 where
  pub long : length p.seal ≡ 32
  pub bytes : Bytes p.seal
  pub opened : IfSome p.opening (Opening hash L k p.seal)

abbrev pub no_party : Party
no_party = record { seal = []; opening = None }

-- THE PROTOCOL OF A DRAW: 1 to 2,000 names, sorted, none twice; L from 64 to 8,192; 1 to 255 parties, of which one opened at least; and the order is the
-- one drawn from the sum of the opened parties' bits, or there is none where the bits run out
pub record OfDraw (d : Protocol) : Type 0 where
  pub some_names : 0 < length d.names
  pub few_names : length d.names ≤ most_names
  pub each_name : (k : ℕ) → k < length d.names → Name (slice_index_or d.names k [])
  pub sorted : Sorted d.names
  pub enough_bits : 64 ≤ d.bits_length
  pub few_bits : d.bits_length ≤ 8192
  pub some_parties : 0 < length d.parties
  pub few_parties : length d.parties ≤ most_parties
  pub each_party : (k : ℕ) → k < length d.parties → PartyOf (sha256 (packed_rows d.names)) d.bits_length k (slice_index_or d.parties k no_party)
  pub some_opened : 0 < length (openings d.parties)
  pub drawn : d.order ≡ ordered (drawing_from (length d.names) d.bits_length d.parties)

-- what is told of an accepted protocol
abbrev pub acceptance : Protocol → Verdict
acceptance d = accepted (length d.names) (length d.parties) (length (openings d.parties)) d.order

-- ACCEPTS DRAWN: bytes that are the protocol of a draw are accepted, and told as the draw is
abbrev pub AcceptsDrawn : List ℕ → Verdict → Type 0
AcceptsDrawn bytes v = (d : Protocol) → OfDraw d → written d ≡ bytes → v ≡ acceptance d

-- ACCEPTS ONLY DRAWN: bytes that are accepted are the protocol of a draw, and told as that draw is
abbrev pub AcceptsOnlyDrawn : List ℕ → Verdict → Type 0
AcceptsOnlyDrawn bytes v =
    (names parties opened : ℕ) (order : Option (List ℕ)) → v ≡ accepted names parties opened order →
    (d : Protocol) × OfDraw d × (written d ≡ bytes) × (v ≡ acceptance d)
