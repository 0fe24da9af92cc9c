-- Where the parts of a protocol stand in its bytes, with counts and lengths taken as they stand. Behind the last byte count zeros. Assumes nothing.
use Rattle.std.specs.Prelude.{ℕ, zero, suc, ◌+◌, ◌*◌, Bool, cond, List, map, take, drop, Some, None, ◌==◌, slice_index}
use Rattle.std.specs.List.{range_with_len}
use Rattle.protocol.specs.Protocol.{Party}

-- the number in the two bytes at a place, low byte first
abbrev pub word_at : List ℕ → ℕ → ℕ
word_at bytes at = slice_index bytes at + 256 * slice_index bytes (at + 1)

-- the number of names
unfoldable pub name_count : List ℕ → ℕ
name_count bytes = word_at bytes 0

-- the place of name number k, that of the byte of its length; and of what stands behind k names
unfoldable pub name_at : List ℕ → ℕ → ℕ
name_at bytes zero = 2
name_at bytes (suc k) = name_at bytes k + 1 + slice_index bytes (name_at bytes k)

-- the name that stands at a place, after its length, and name number k
abbrev pub name_in : List ℕ → ℕ → List ℕ
name_in bytes at = take (slice_index bytes at) (drop (at + 1) bytes)

abbrev pub name_of : List ℕ → ℕ → List ℕ
name_of bytes k = name_in bytes (name_at bytes k)

-- behind the names: how many bytes each party puts in, and the number of parties
unfoldable pub length_at : List ℕ → ℕ
length_at bytes = name_at bytes (name_count bytes)

unfoldable pub bits_length : List ℕ → ℕ
bits_length bytes = word_at bytes (length_at bytes)

unfoldable pub party_count : List ℕ → ℕ
party_count bytes = slice_index bytes (length_at bytes + 2)

-- how many bytes stand behind the byte that tells whether a party opened: 1 if it did
abbrev pub opening_size : ℕ → ℕ → ℕ
opening_size opened L = cond (opened == 1) (32 + L) 0

-- the place of party number k, and of what stands behind k parties
unfoldable pub party_at : List ℕ → ℕ → ℕ
party_at bytes zero = length_at bytes + 3
party_at bytes (suc k) = party_at bytes k + 33 + opening_size (slice_index bytes (party_at bytes k + 32)) (bits_length bytes)

-- a party that stands at a place, and party number k
abbrev pub party_in : List ℕ → ℕ → ℕ → Party
party_in bytes L at =
    record {
      seal = take 32 (drop at bytes);
      opening = cond (slice_index bytes (at + 32) == 1) (Some (take (32 + L) (drop (at + 33) bytes))) None;
    }

abbrev pub party_of : List ℕ → ℕ → Party
party_of bytes k = party_in bytes (bits_length bytes) (party_at bytes k)

-- whether it opened
abbrev pub opened_in : List ℕ → ℕ → Bool
opened_in bytes k = slice_index bytes (party_at bytes k + 32) == 1

abbrev pub parties_of : List ℕ → List Party
parties_of bytes = map (party_of bytes) (range_with_len 0 (party_count bytes))

-- behind the parties: the word whether there is an order, 1 if there is, and the order
unfoldable pub order_at : List ℕ → ℕ
order_at bytes = party_at bytes (party_count bytes)

abbrev pub numbers_at : List ℕ → ℕ → ℕ → List ℕ
numbers_at bytes at n = map (λ (k : ℕ). word_at bytes (at + 2 * k)) (range_with_len 0 n)

-- how many bytes the protocol has by its counts and lengths
unfoldable pub size : List ℕ → ℕ
size bytes = order_at bytes + 1 + cond (slice_index bytes (order_at bytes) == 1) (2 * name_count bytes) 0
