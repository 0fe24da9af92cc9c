-- The laws of the parties' records. Each is a statement whose proof a function's contract demands. Assumes nothing.
use Rattle.std.specs.Prelude.{◌≡◌, ℕ, ◌+◌, ◌*◌, ◌<◌, ◌≤◌, true, false, List, length, drop, Ok, ◌≢◌}
use Rattle.seals.specs.Seal.{seal_of}
use Rattle.seals.specs.Records.{record_size, seal_in, has_opened, opening_in}
use Rattle.seals.specs.Steps.{sealed, opened, most_parties}
use Rattle.sum.specs.Sums.{xor_bytes, sum_of}
use Rattle.records.specs.Records.{opened_rows}

-- a record that is as it was
pub record Same (before after : List ℕ) (len k : ℕ) : Type 0 where
  pub seal : seal_in after len k ≡ seal_in before len k
  pub mark : has_opened after len k ≡ has_opened before len k
  pub opening : opening_in after len k ≡ opening_in before len k

-- a seal that is taken: the next party has it, has not opened, and the other parties' records stay; of parties that are at most 255 it is not the 256th
pub record SealKept (before after x : List ℕ) (len parties : ℕ) : Type 0 where
  pub few : parties ≤ most_parties → parties < most_parties
  pub long : length x ≡ 32
  pub room : record_size len * (parties + 1) ≤ length before
  pub size : length after ≡ length before
  pub seal : seal_in after len parties ≡ x
  pub unopened : has_opened after len parties ≡ false
  pub others : (k : ℕ) → k < parties → Same before after len k

abbrev pub SealTaken : Type 0
SealTaken =
    (seals x : List ℕ) (len parties n : ℕ) → (sealed seals len parties x).answer ≡ Ok n →
    (n ≡ parties + 1) × SealKept seals (sealed seals len parties x).seals x len parties

-- an opening that is taken: it is of a party that had not opened, it gives the seal, it stands in that party's record, and the others' stay
pub record OpeningKept (before after context x : List ℕ) (len parties party : ℕ) : Type 0 where
  pub exists : party < parties
  pub first : has_opened before len party ≡ false
  pub long : length x ≡ 32 + len
  pub gives : seal_of context party x ≡ seal_in before len party
  pub size : length after ≡ length before
  pub seal : seal_in after len party ≡ seal_in before len party
  pub mark : has_opened after len party ≡ true
  pub opening : opening_in after len party ≡ x
  pub others : (k : ℕ) → (k ≢ party) → Same before after len k

abbrev pub OpeningTaken : Type 0
OpeningTaken =
    (seals context x : List ℕ) (len parties party : ℕ) → (opened seals len parties context party x).answer ≡ Ok tt →
    OpeningKept seals (opened seals len parties context party x).seals context x len parties party

-- THE SUM: with the opening that is taken, the sum of the openings so far is the sum of the openings now, whatever the order in which they come
abbrev pub OpeningSummed : Type 0
OpeningSummed =
    (seals context x : List ℕ) (len parties party : ℕ) → (opened seals len parties context party x).answer ≡ Ok tt →
    sum_of len (opened_rows (opened seals len parties context party x).seals len parties)
    ≡ xor_bytes (sum_of len (opened_rows seals len parties)) (drop 32 x)

-- and a seal that is taken adds nothing to it
abbrev pub SealUnsummed : Type 0
SealUnsummed =
    (seals x : List ℕ) (len parties n : ℕ) → (sealed seals len parties x).answer ≡ Ok n →
    opened_rows (sealed seals len parties x).seals len n ≡ opened_rows seals len parties
