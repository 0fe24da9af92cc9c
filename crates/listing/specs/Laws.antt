-- The laws of the list. Each is a statement whose proof a function's contract demands. Assumes nothing.
use Rattle.std.specs.Prelude.{◌≡◌, ℕ, ◌+◌, ◌*◌, ◌<◌, ◌≤◌, List, [], length, Ok, Err, MatchOption, ◌≢◌, slice_index_or}
use Rattle.std.specs.declared.cmp.Ordering.TheVariants.{Less, Greater}
use Rattle.std.specs.List.{insert, ContainsAt as Has}
use Rattle.std.specs.List.Sorted.{IsPermutation}
use Rattle.refusals.specs.declared.Refusal.{Refusal}
use Rattle.entries.specs.Rows.{row_order, longest_name, most_names, slot_size}
use Rattle.entries.specs.Place.{place}
use Rattle.entries.specs.Entry.{entered}
use Rattle.listing.specs.Listing.{Listing, names, after_entry, after_entries, taken, no_entries, Sorted, Sound}

-- among sorted names halving finds the name if it is there, and else the place with all smaller names before it and all greater ones after it
abbrev pub PlaceFound : Type 0
PlaceFound =
    (ns : List (List ℕ)) (x : List ℕ) → Sorted ns →
    MatchOption (place ns x)
    ((k : ℕ) × (k < length ns) × (slice_index_or ns k [] ≡ x))
    (λ at. (at ≤ length ns) × ((k : ℕ) → k < at → row_order (slice_index_or ns k []) x ≡ Less) × ((k : ℕ) → at ≤ k → k < length ns → row_order (slice_index_or ns k []) x ≡ Greater))

-- an entry that is taken stands in the list at one place, and the other names stay in their order around it
abbrev pub EntryInserts : Type 0
EntryInserts =
    (s : Listing) (x : List ℕ) (n : ℕ) → Sound s → (entered s.slots s.index s.count x).answer ≡ Ok n →
    (at : ℕ) × (at ≤ length (names s)) × (names (after_entry s x) ≡ insert (names s) at x)

-- an entry is taken if its name has 1 to 64 bytes and differs from all in the list, the list holds fewer names than it may, and memory has room for one more
abbrev pub EntryTaken : Type 0
EntryTaken =
    (s : Listing) (x : List ℕ) → Sound s → 0 < length x → length x ≤ longest_name → s.count < most_names →
    ((k : ℕ) → k < s.count → slice_index_or (names s) k [] ≢ x) → slot_size * (s.count + 1) ≤ length s.slots → s.count < length s.index →
    (entered s.slots s.index s.count x).answer ≡ Ok (s.count + 1)

-- and only then, and it is counted
abbrev pub EntryNeeds : Type 0
EntryNeeds =
    (s : Listing) (x : List ℕ) (n : ℕ) → Sound s → (entered s.slots s.index s.count x).answer ≡ Ok n →
    (n ≡ s.count + 1) × (0 < length x) × (length x ≤ longest_name) × (s.count < most_names)
    × ((k : ℕ) → k < s.count → slice_index_or (names s) k [] ≢ x) × (slot_size * (s.count + 1) ≤ length s.slots) × (s.count < length s.index)

-- a refused entry changes nothing
abbrev pub EntryRefused : Type 0
EntryRefused = (s : Listing) (x : List ℕ) (why : Refusal) → (entered s.slots s.index s.count x).answer ≡ Err why → after_entry s x ≡ s

-- entries keep memory sound
abbrev pub EntryKeeps : Type 0
EntryKeeps = (s : Listing) (x : List ℕ) → Sound s → Sound (after_entry s x)

-- ONE LIST: whatever was entered, in whatever memory, the list is sorted and holds each entry that was taken once; and it is the same wherever the same entries
-- were taken, in any order
abbrev pub OneList : Type 0
OneList =
    (slots index slots' index' : List ℕ) (xs ys : List (List ℕ)) →
    Sorted (names (after_entries (no_entries slots index) xs))
    × IsPermutation (taken (no_entries slots index) xs) (names (after_entries (no_entries slots index) xs))
    × (IsPermutation (taken (no_entries slots index) xs) (taken (no_entries slots' index') ys)
    → names (after_entries (no_entries slots index) xs) ≡ names (after_entries (no_entries slots' index') ys))

-- the list and memory have room for n more names
abbrev pub RoomFor : Listing → ℕ → Type 0
RoomFor s n = (s.count + n ≤ most_names) × (slot_size * (s.count + n) ≤ length s.slots) × (s.count + n ≤ length s.index)

-- where there is room for all entries, the list holds just those of 1 to 64 bytes
abbrev pub AllListed : Type 0
AllListed =
    (slots index : List ℕ) (xs : List (List ℕ)) (z : List ℕ) → RoomFor (no_entries slots index) (length xs) →
    (Has (names (after_entries (no_entries slots index) xs)) z → Has xs z × (0 < length z) × (length z ≤ longest_name))
    × (Has xs z → 0 < length z → length z ≤ longest_name → Has (names (after_entries (no_entries slots index) xs)) z)

-- so it is the same for the same entries in any order, however often each came
abbrev pub AnyOrder : Type 0
AnyOrder =
    (slots index slots' index' : List ℕ) (xs ys : List (List ℕ)) →
    RoomFor (no_entries slots index) (length xs) → RoomFor (no_entries slots' index') (length ys) →
    ((z : List ℕ) → Has xs z → Has ys z) → ((z : List ℕ) → Has ys z → Has xs z) →
    names (after_entries (no_entries slots index) xs) ≡ names (after_entries (no_entries slots' index') ys)
