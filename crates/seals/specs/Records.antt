-- The parties' records in memory: a seal of 32 bytes, one byte that tells whether the party has opened, and its opening, 32 bytes and its bits. Assumes nothing.
use Rattle.std.specs.Prelude.{ℕ, zero, suc, ◌+◌, ◌*◌, Bool, cond, List, take, drop, Some, None, Option, nat_lt, slice_index}

-- a record, where each party puts in `len` bytes
abbrev pub record_size : ℕ → ℕ
record_size len = 65 + len

-- its parts
abbrev pub seal_in : List ℕ → ℕ → ℕ → List ℕ
seal_in seals len party = take 32 (drop (record_size len * party) seals)

abbrev pub has_opened : List ℕ → ℕ → ℕ → Bool
has_opened seals len party = nat_lt 0 (slice_index seals (record_size len * party + 32))

abbrev pub opening_in : List ℕ → ℕ → ℕ → List ℕ
opening_in seals len party = take (32 + len) (drop (record_size len * party + 33) seals)

-- the opening of a party that has opened
abbrev pub opening_if : List ℕ → ℕ → ℕ → Option (List ℕ)
opening_if seals len party = cond (has_opened seals len party) (Some (opening_in seals len party)) None

-- how many of the first n parties have opened
abbrev pub opened_count : List ℕ → ℕ → ℕ → ℕ
opened_count seals len zero = 0
opened_count seals len (suc n) = opened_count seals len n + cond (has_opened seals len n) 1 0
