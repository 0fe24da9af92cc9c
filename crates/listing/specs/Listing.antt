-- Entries one after another: what memory holds after them, and which of them were taken. Assumes nothing.
use Rattle.std.specs.Prelude.{◌≡◌, ℕ, ◌+◌, ◌*◌, ◌<◌, ◌≤◌, List, [], ◌∷◌, length, Ok, Err, Result, slice_index, slice_index_or}
use Rattle.std.specs.declared.cmp.Ordering.TheVariants.{Less}
use Rattle.refusals.specs.declared.Refusal.{Refusal}
use Rattle.entries.specs.Rows.{row_order, listed, slot_size, longest_name}
use Rattle.entries.specs.Entry.{entered}

-- the memory of the list, and how many names are in it
pub record Listing : Type 0 where
  pub slots : List ℕ
  pub index : List ℕ
  pub count : ℕ

abbrev pub names : Listing → List (List ℕ)
names s = listed s.slots s.index s.count

-- the count after an answer, and memory after one entry: a refused one changes nothing
abbrev pub counted : Result ℕ Refusal → ℕ → ℕ
counted (Ok n) count = n
counted (Err why) count = count

abbrev pub after_entry : Listing → List ℕ → Listing
after_entry s x =
    record {
      slots = (entered s.slots s.index s.count x).slots;
      index = (entered s.slots s.index s.count x).index;
      count = counted (entered s.slots s.index s.count x).answer s.count;
    }

unfoldable pub after_entries : Listing → List (List ℕ) → Listing
after_entries s [] = s
after_entries s (x ∷ xs) = after_entries (after_entry s x) xs

-- those of the entries that were taken, in the order in which they came
abbrev pub if_taken : Result ℕ Refusal → List ℕ → List (List ℕ) → List (List ℕ)
if_taken (Ok n) x xs = x ∷ xs
if_taken (Err why) x xs = xs

unfoldable pub taken : Listing → List (List ℕ) → List (List ℕ)
taken s [] = []
taken s (x ∷ xs) = if_taken (entered s.slots s.index s.count x).answer x (taken (after_entry s x) xs)

-- the list before the first entry, in memory that holds anything
abbrev pub no_entries : List ℕ → List ℕ → Listing
no_entries slots index = record { slots = slots; index = index; count = 0 }

-- each name comes before the next
abbrev pub Sorted : List (List ℕ) → Type 0
Sorted ns = (i : ℕ) → i + 1 < length ns → row_order (slice_index_or ns i []) (slice_index_or ns (i + 1) []) ≡ Less

-- memory as entries leave it: every number in the index is that of a slot in use, each slot in use holds a name of 1 to 64 bytes, and the names are sorted
pub record Sound (s : Listing) : Type 0 where
  pub numbers_room : s.count ≤ length s.index
  pub slots_room : slot_size * s.count ≤ length s.slots
  pub in_use : (i : ℕ) → i < s.count → slice_index s.index i < s.count
  pub lengths : (i : ℕ) → i < s.count → (0 < slice_index s.slots (slot_size * i)) × (slice_index s.slots (slot_size * i) ≤ longest_name)
  pub sorted : Sorted (names s)
