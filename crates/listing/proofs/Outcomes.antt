-- An entry is refused and changes nothing, or it is taken and put in at the place that was found. Assumes nothing.
use Rattle.std.proofs.lemmas.Grind.{common_steps}
use Rattle.std.proofs.Common.{◌≡◌, ℕ, ◌+◌, ◌*◌, ◌<◌, ◌≤◌, Bool, true, false, cond, ◌||◌, eqb, ltb, leb, ◌⊎◌, List, length, Some, None, Ok, Err, Option, refl, ap, inl, inr, arith}
use Rattle.std.proofs.lemmas.Bool.{or_parts, ltb-false, leb-false, eqb-false}
use Rattle.refusals.specs.declared.Lent.TheVariants.{List as TheList}
use Rattle.refusals.specs.declared.Refusal.{Refusal}
use Rattle.refusals.specs.declared.Refusal.TheVariants.{NameLength, NameTaken, NoRoom}
use Rattle.entries.specs.Rows.{slot_size, longest_name, most_names}
use Rattle.entries.specs.Place.{place, or_taken}
use Rattle.entries.specs.Entry.{Entered, entered, entered_at, entered_into, inserted_number}
use Rattle.listing.specs.Listing.{Listing, names, counted, after_entry}
use Rattle.listing.proofs.Slots.{written}

module _ (s : Listing) (x : List ℕ) where
  abbrev pub result : Entered
  result = entered s.slots s.index s.count x

  -- what an entry at a place comes to, and what a refusal does
  abbrev pub put : ℕ → Entered
  put at = record { answer = Ok (s.count + 1); slots = written s.slots x s.count; index = inserted_number s.index s.count at }

  abbrev pub unchanged : Refusal → Entered
  unchanged why = record { answer = Err why; slots = s.slots; index = s.index }

  pub record Taken (e : Entered) : Type 0 where
    pub at : ℕ
    pub some : 0 < length x
    pub short : length x ≤ longest_name
    pub few : s.count < most_names
    pub found : place (names s) x ≡ Some at
    pub slots_left : slot_size * s.count + slot_size ≤ length s.slots
    pub numbers_left : s.count < length s.index
    pub is : e ≡ put at

  abbrev pub Refused : Entered → Type 0
  Refused e = (why : Refusal) × (e ≡ unchanged why)

  -- the tests of an entry, each with what it comes to
  abbrev no_room : Bool
  no_room = ltb (length s.slots) (slot_size * s.count + slot_size) || leb (length s.index) s.count

  abbrev bad_length : Bool
  bad_length = eqb (length x) 0 || ltb longest_name (length x)

  abbrev after_room : ℕ → Bool → Entered
  after_room at b = entered_into s.slots s.index s.count x at (cond b None (Some (slot_size * s.count)))

  abbrev after_place : Option ℕ → Entered
  after_place r = entered_at s.slots s.index s.count x (or_taken r)

  abbrev after_count : Bool → Entered
  after_count b = entered_at s.slots s.index s.count x (cond b (Err NameTaken) (or_taken (place (names s) x)))

  abbrev after_length : Bool → Entered
  after_length b = entered_at s.slots s.index s.count x (cond b (Err (NameLength (length x))) (cond (leb most_names s.count) (Err NameTaken) (or_taken (place (names s) x))))

  room_cases : (at : ℕ) → 0 < length x → length x ≤ longest_name → s.count < most_names → place (names s) x ≡ Some at
      → (b : Bool) → no_room ≡ b → Taken (after_room at b) ⊎ Refused (after_room at b)
  room_cases at a l c p true e = inr (NoRoom TheList, refl)
  room_cases at a l c p false e =
      let t = or_parts (ltb (length s.slots) (slot_size * s.count + slot_size)) (leb (length s.index) s.count) e in
      inl (record {
        at = at;
        some = a;
        short = l;
        few = c;
        found = p;
        slots_left = ltb-false (length s.slots) (slot_size * s.count + slot_size) t.0;
        numbers_left = leb-false (length s.index) s.count t.1;
        is = refl;
      })

  place_cases : 0 < length x → length x ≤ longest_name → s.count < most_names → (r : Option ℕ) → place (names s) x ≡ r → Taken (after_place r) ⊎ Refused (after_place r)
  place_cases a l c None p = inr (NameTaken, refl)
  place_cases a l c (Some at) p = room_cases at a l c p no_room refl

  count_cases : 0 < length x → length x ≤ longest_name → (b : Bool) → leb most_names s.count ≡ b → Taken (after_count b) ⊎ Refused (after_count b)
  count_cases a l true e = inr (NameTaken, refl)
  count_cases a l false e = place_cases a l (leb-false most_names s.count e) (place (names s) x) refl

  length_cases : (b : Bool) → bad_length ≡ b → Taken (after_length b) ⊎ Refused (after_length b)
  length_cases true e = inr (NameLength (length x), refl)
  length_cases false e =
      let t = or_parts (eqb (length x) 0) (ltb longest_name (length x)) e in
      let n : length x ≡ 0 → ⊥ = eqb-false (length x) 0 t.0 in
      count_cases (omega arith) (ltb-false longest_name (length x) t.1) (leb most_names s.count) refl

  pub entry_cases : Taken result ⊎ Refused result
  entry_cases = length_cases bad_length refl

  -- an entry is taken where nothing speaks against it
  pub taken_where : (at : ℕ) → 0 < length x → length x ≤ longest_name → s.count < most_names → place (names s) x ≡ Some at
      → slot_size * s.count + slot_size ≤ length s.slots → s.count < length s.index → result ≡ put at
  taken_where at a l c p room number = grind (arith, common_steps)

  -- the list after it
  abbrev pub left : Entered → Listing
  left e = record { slots = e.slots; index = e.index; count = counted e.answer s.count }

  pub left_taken : (t : Taken result) → after_entry s x ≡ left (put t.at)
  left_taken t = ap left t.is

  pub left_refused : Refused result → after_entry s x ≡ s
  left_refused r = ap left r.1
