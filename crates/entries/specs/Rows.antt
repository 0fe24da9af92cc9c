-- Names in memory: slots of 65 bytes in the order of arrival, and an index of slots in the order of the list. Assumes nothing.
use Rattle.std.specs.Prelude.{ℕ, ◌+◌, ◌*◌, List, ◌∷◌, map, length, take, drop, slice_index}
use Rattle.std.specs.declared.cmp.Ordering.{Ordering}
use Rattle.sha256.specs.Sha256.{sha256}
use Rattle.std.specs.List.{flat_map}
use Rattle.std.specs.Ordering.{nat_cmp}
use Rattle.std.specs.Cmp.Lexicographic.{slice_cmp}

-- a name is a row of 1 to 64 bytes; a slot has room for one, after one byte of its length
abbrev pub longest_name : ℕ
longest_name = 64

abbrev pub slot_size : ℕ
slot_size = 65

-- a list holds at most 2,000 names
abbrev pub most_names : ℕ
most_names = 2000

-- rows in order: by bytes, a shorter row before a longer one that begins with it
abbrev pub row_order : List ℕ → List ℕ → Ordering
row_order xs ys = slice_cmp nat_cmp xs ys

-- a row after one byte of its length, and rows one after another
abbrev pub packed : List ℕ → List ℕ
packed x = length x ∷ x

abbrev pub packed_rows : List (List ℕ) → List ℕ
packed_rows ns = flat_map packed ns

-- the name in a slot
abbrev pub name_in : List ℕ → ℕ → List ℕ
name_in slots s = take (slice_index slots (slot_size * s)) (drop (slot_size * s + 1) slots)

-- the names of a list of `count`, in order
abbrev pub listed : List ℕ → List ℕ → ℕ → List (List ℕ)
listed slots index count = map (name_in slots) (take count index)

-- the list's hash: that of its rows in order, each after one byte of its length
abbrev pub list_hash : List ℕ → List ℕ → ℕ → List ℕ
list_hash slots index count = sha256 (packed_rows (listed slots index count))
