-- A taken entry: the name stands at its place among the others, and memory stays sound. Assumes nothing.
use Rattle.std.proofs.lemmas.Grind.{common_steps}
use Rattle.std.proofs.Common.{◌≡◌, ℕ, ◌+◌, ◌*◌, ◌<◌, ◌≤◌, List, [], map, get_or, take, Some, sym, ap, ◌∙◌, subst, ⊎_elim, arith}
use Rattle.std.specs.List.{insert}
use Rattle.std.proofs.lemmas.Bool.{cases_lt}
use Rattle.entries.specs.Rows.{name_in, slot_size, longest_name}
use Rattle.entries.specs.Entry.{Entered}
use Rattle.listing.specs.Listing.{Listing, names, Sorted, Sound}
use Rattle.listing.proofs.Orders.{row_less, less_apart}
use Rattle.listing.proofs.SortedRows.{sorted_inserted}
use Rattle.listing.proofs.Search.{Found, place_found}
use Rattle.listing.proofs.Slots.{written, name_new, name_kept, length_written}
use Rattle.listing.proofs.Numbers.{all_front, take_numbers, length_numbers, numbers_in_use}
use Rattle.listing.proofs.Outcomes.{Taken, put, left}
use Rattle.listing.proofs.Memory.{length_names}
use Rattle.listing.proofs.Maps.{map_alike, map_inserted}

module _ (s : Listing) (x : List ℕ) (h : Sound s) (e : Entered) (t : Taken s x e) where
  -- the place that was found lies among the names, with the lesser ones before it and the greater ones behind it
  pub place_is : Found (names s) x (Some t.at)
  place_is = subst (Found (names s) x) t.found (place_found (names s) x h.sorted)

  pub place_low : t.at ≤ s.count
  place_low = omega (arith, place_is.0, length_names s h)

  -- no name of the list is the new one
  pub none_same : (k : ℕ) → k < s.count → get_or (names s) k [] ≡ x → ⊥
  none_same k l e =
      ⊎_elim (λ (b : k < t.at). less_apart (get_or (names s) k []) x (place_is.1 k b) e)
      (λ (b : t.at ≤ k). less_apart x (get_or (names s) k []) (row_less (get_or (names s) k []) x (place_is.2 k b (omega (arith, length_names s h)))) (sym e))
      (cases_lt k t.at)

  pub names_put : names (left s x (put s x t.at)) ≡ insert (names s) t.at x
  names_put =
      let new : List ℕ = written s.slots x s.count in
      let front : List ℕ = take s.count s.index in
      let same : map (name_in new) front ≡ names s =
      map_alike (name_in new) (name_in s.slots) front (all_front (λ i. name_in new i ≡ name_in s.slots i) s.index s.count h.numbers_room
      (λ i l. name_kept s.slots x s.count t.slots_left (get_or s.index i 0) (h.in_use i l) (h.lengths (get_or s.index i 0) (h.in_use i l)).1)) in
      ap (map (name_in new)) (take_numbers s.index s.count t.at t.numbers_left place_low)
      ∙ (map_inserted (name_in new) front t.at s.count
      ∙ (λ i. insert (same i) t.at (name_new s.slots x s.count t.slots_left i)))

  lengths_put : (i : ℕ) → i < s.count + 1 → (0 < get_or (written s.slots x s.count) (slot_size * i) 0) × (get_or (written s.slots x s.count) (slot_size * i) 0 ≤ longest_name)
  lengths_put i l = grind (arith, common_steps)

  pub sound_put : Sound (left s x (put s x t.at))
  sound_put = record {
    numbers_room = omega (arith, t.numbers_left, length_numbers s.index s.count t.at t.numbers_left place_low);
    slots_room = omega (arith, t.slots_left, length_written s.slots x s.count t.slots_left t.short);
    in_use = numbers_in_use s.index s.count t.at t.numbers_left place_low h.in_use;
    lengths = lengths_put;
    sorted = subst Sorted (sym names_put) (sorted_inserted (names s) x t.at place_is.0 h.sorted place_is.1 place_is.2);
  }
