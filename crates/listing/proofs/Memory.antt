-- What sound memory holds: as many names as counted, each of 1 to 64 bytes; and memory before the first entry is sound. Assumes nothing.
use Rattle.std.proofs.lemmas.Grind.{common_steps}
use Rattle.std.proofs.Common.{◌≡◌, ℕ, ◌*◌, ◌<◌, ◌≤◌, List, [], length, get_or, ap, ◌∙◌, arith}
use Rattle.entries.specs.Rows.{name_in, slot_size, longest_name}
use Rattle.listing.specs.Listing.{Listing, names, no_entries, Sound}
use Rattle.listing.proofs.SortedRows.{sorted_none}

pub sound_none : (slots index : List ℕ) → Sound (no_entries slots index)
sound_none slots index = record {
  numbers_room = omega arith;
  slots_room = omega arith;
  in_use = λ i l. absurd (omega arith);
  lengths = λ i l. absurd (omega arith);
  sorted = sorted_none;
}

pub length_names : (s : Listing) → Sound s → length (names s) ≡ s.count
length_names s h = grind (arith, common_steps)

-- the name at a place of the list, by its slot
pub name_at : (s : Listing) → Sound s → (k : ℕ) → k < s.count → get_or (names s) k [] ≡ name_in s.slots (get_or s.index k 0)
name_at s h k l = grind (arith, common_steps)

-- a name in a slot in use is as long as the slot's first byte says
pub slot_length : (s : Listing) → Sound s → (i : ℕ) → i < s.count → length (name_in s.slots i) ≡ get_or s.slots (slot_size * i) 0
slot_length s h i l = grind (arith, common_steps)

pub name_lengths : (s : Listing) → Sound s → (k : ℕ) → k < s.count → (0 < length (get_or (names s) k [])) × (length (get_or (names s) k []) ≤ longest_name)
name_lengths s h k l =
    let i : ℕ = get_or s.index k 0 in
    let n : length (get_or (names s) k []) ≡ get_or s.slots (slot_size * i) 0 = ap length (name_at s h k l) ∙ slot_length s h i (h.in_use k l) in
    let b = h.lengths i (h.in_use k l) in
    (omega (arith, n, b.0), omega (arith, n, b.1))
