-- How a protocol that anyone may have written is checked: in four passes, so that refusals are looked for in the order of their numbers. Assumes nothing.
use Rattle.std.specs.Prelude.{ℕ, zero, suc, ◌+◌, ◌-◌, Bool, false, cond, not, ◌||◌, List, [], length, take, drop, Some, None, vec_items, Ok, Err, Result, Option, ◌==◌, nat_lt, slice_index}
use Rattle.std.specs.Option.{option_map}
use Rattle.std.specs.Ordering.{is_lt}
use Rattle.std.specs.Str.{bytes_eq}
use Rattle.refusals.specs.declared.Refusal.{Refusal}
use Rattle.refusals.specs.declared.Refusal.TheVariants.{ProtocolLength, OutOfRange, BadOpening, NoneOpened, WrongOrder}
use Rattle.sha256.specs.Sha256.{sha256}
use Rattle.entries.specs.Rows.{row_order, longest_name, most_names}
use Rattle.seals.specs.Seal.{seal_of}
use Rattle.order.specs.Drawings.{Drawing}
use Rattle.protocol.specs.Protocol.{Party, openings, drawing_from, ordered}
use Rattle.protocol.specs.Layout.{name_count, name_at, name_in, name_of, length_at, bits_length, party_count, party_at, party_of, parties_of, order_at, numbers_at, size}
use Rattle.protocol.specs.declared.verdict.Accepted.{Accepted}
use Rattle.protocol.specs.declared.verdict.CheckError.{CheckError}
use Rattle.protocol.specs.declared.verdict.CheckError.TheVariants.{Refused, NoMemory}

-- accepted, with the number of names, of parties and of those that opened, and the order if there is one; or refused
pub data Verdict : Type 0 where
  accepted : ℕ → ℕ → ℕ → Option (List ℕ) → Verdict
  refused : Refusal → Verdict

-- the verdict that is answered; there is none where memory ran out
abbrev pub answered : Result Accepted CheckError → Option Verdict
answered (Ok a) = Some (accepted a.names a.parties a.opened (option_map vec_items a.order))
answered (Err (Refused why)) = Some (refused why)
answered (Err (NoMemory e)) = None

-- the first of two, and of f 0, f 1, .., f (n - 1), that is there
abbrev pub or_else : Option ℕ → Option ℕ → Option ℕ
or_else None next = next
or_else (Some at) next = Some at

unfoldable pub first_of : (ℕ → Option ℕ) → ℕ → Option ℕ
first_of f zero = None
first_of f (suc k) = or_else (first_of f k) (f k)

abbrev pub outside : ℕ → ℕ → ℕ → Bool
outside least most n = nat_lt n least || nat_lt most n

-- a fault told with its number, or what the next pass tells
abbrev pub told : (ℕ → Refusal) → Option ℕ → Option Refusal → Option Refusal
told why None next = next
told why (Some at) next = Some (why at)

-- what a pass answers: the fault that it found, if there is one; and a fault that is told with its number
abbrev pub refused_for : Option Refusal → Result (Unit {0}) Refusal
refused_for None = Ok tt
refused_for (Some why) = Err why

abbrev pub refused_with : (ℕ → Refusal) → Option ℕ → Result (Unit {0}) Refusal
refused_with why fault = refused_for (option_map why fault)

-- SHAPE: the protocol has as many bytes as its counts and lengths say; else it ends too early, or goes on
abbrev pub shape_fault : List ℕ → Option ℕ
shape_fault bytes =
    cond (nat_lt (length bytes) (size bytes)) (Some (length bytes))
    (cond (nat_lt (size bytes) (length bytes)) (Some (size bytes)) None)

-- RANGES: a name has 1 to 64 bytes, and is above the one before it
abbrev pub name_before : List ℕ → ℕ → List ℕ
name_before bytes zero = []
name_before bytes (suc k) = name_of bytes k

abbrev pub fault_in_name : List ℕ → ℕ → List ℕ → Option ℕ
fault_in_name bytes at before =
    cond (outside 1 longest_name (slice_index bytes at)) (Some at)
    (cond (is_lt (row_order before (name_in bytes at))) None (Some (at + 1)))

abbrev pub name_fault : List ℕ → ℕ → Option ℕ
name_fault bytes k = fault_in_name bytes (name_at bytes k) (name_before bytes k)

-- the byte that tells whether a party opened is 0 or 1
abbrev pub opened_fault : List ℕ → ℕ → Option ℕ
opened_fault bytes k = cond (nat_lt 1 (slice_index bytes (party_at bytes k + 32))) (Some (party_at bytes k + 32)) None

-- there are 1 to 2,000 names; each party puts in 64 to 8,192 bytes; there is a party, and one byte tells of 255 at most
abbrev pub range_fault : List ℕ → Option ℕ
range_fault bytes =
    cond (outside 1 most_names (name_count bytes)) (Some 0)
    (or_else (first_of (name_fault bytes) (name_count bytes))
    (cond (outside 64 8192 (bits_length bytes)) (Some (length_at bytes))
    (cond (party_count bytes == 0) (Some (length_at bytes + 2)) (first_of (opened_fault bytes) (party_count bytes)))))

-- SEALS: the list's hash is that of the names' bytes as they stand, each after its length
abbrev pub hash_of : List ℕ → List ℕ
hash_of bytes = sha256 (take (length_at bytes - 2) (drop 2 bytes))

-- each opening gives its party's seal
abbrev pub is_wrong : List ℕ → ℕ → List ℕ → Option (List ℕ) → Bool
is_wrong hash k seal None = false
is_wrong hash k seal (Some x) = not (bytes_eq (seal_of hash k x) seal)

abbrev pub wrong_opening : List ℕ → ℕ → Party → Bool
wrong_opening hash k p = is_wrong hash k p.seal p.opening

abbrev pub party_fault : List ℕ → List ℕ → ℕ → Option ℕ
party_fault hash bytes k = cond (wrong_opening hash k (party_of bytes k)) (Some k) None

abbrev pub opened_count : List ℕ → ℕ
opened_count bytes = length (openings (parties_of bytes))

-- and a party opened
abbrev pub seal_fault : List ℕ → Option Refusal
seal_fault bytes =
    told (λ k. BadOpening k) (first_of (party_fault (hash_of bytes) bytes) (party_count bytes))
    (cond (opened_count bytes == 0) (Some NoneOpened) None)

-- ORDER: the order is the one drawn from the sum of the opened parties' bits, and the word says whether there is one
abbrev pub drawing_of : List ℕ → Drawing
drawing_of bytes = drawing_from (name_count bytes) (bits_length bytes) (parties_of bytes)

abbrev pub order_fault : List ℕ → Option (List ℕ) → Option ℕ
order_fault bytes None = cond (slice_index bytes (order_at bytes) == 0) None (Some (order_at bytes))
order_fault bytes (Some ns) =
    cond (slice_index bytes (order_at bytes) == 1)
    (cond (bytes_eq (numbers_at bytes (order_at bytes + 1) (length ns)) ns) None (Some (order_at bytes + 1)))
    (Some (order_at bytes))

abbrev pub early_fault : List ℕ → Option Refusal
early_fault bytes =
    told (λ at. ProtocolLength at) (shape_fault bytes) (told (λ at. OutOfRange at) (range_fault bytes) (seal_fault bytes))

abbrev pub judged : Option Refusal → Verdict → Verdict
judged None v = v
judged (Some why) v = refused why

abbrev pub judged_order : List ℕ → Option (List ℕ) → Verdict
judged_order bytes order =
    judged (option_map (λ at. WrongOrder at) (order_fault bytes order)) (accepted (name_count bytes) (party_count bytes) (opened_count bytes) order)

unfoldable pub verdict : List ℕ → Verdict
verdict bytes = judged (early_fault bytes) (judged_order bytes (ordered (drawing_of bytes)))
