-- The laws of one entry. Assumes nothing.
use Rattle.std.proofs.lemmas.Grind.{common_steps}
use Rattle.std.proofs.Common.{◌≡◌, ℕ, ◌+◌, List, Some, None, Ok, Err, Option, sym, refl, ap, ◌∙◌, subst, ⊎_elim, arith}
use Rattle.std.specs.List.{insert}
use Rattle.refusals.specs.declared.Refusal.{Refusal}
use Rattle.entries.specs.Place.{place}
use Rattle.entries.specs.Entry.{Entered}
use Rattle.listing.specs.Listing.{Listing, names, after_entry, Sound}
use Rattle.listing.specs.Laws.{EntryInserts, EntryTaken, EntryNeeds, EntryRefused, EntryKeeps}
use Rattle.listing.proofs.Search.{Found, place_found}
use Rattle.listing.proofs.Outcomes.{Taken, Refused, result, entry_cases, taken_where, left_taken, left_refused}
use Rattle.listing.proofs.Entering.{place_is, none_same, names_put, sound_put}
use Rattle.listing.proofs.Memory.{length_names}

-- the outcome by the answer
pub taken_from : (s : Listing) (x : List ℕ) (n : ℕ) → (result s x).answer ≡ Ok n → Taken s x (result s x)
taken_from s x n a = grind (arith, common_steps)

pub refused_from : (s : Listing) (x : List ℕ) (why : Refusal) → (result s x).answer ≡ Err why → Refused s x (result s x)
refused_from s x why a = grind (arith, common_steps)

pub names_taken : (s : Listing) (x : List ℕ) → Sound s → (t : Taken s x (result s x)) → names (after_entry s x) ≡ insert (names s) t.at x
names_taken s x h t = ap names (left_taken s x t) ∙ names_put s x h (result s x) t

pub entry_inserts : EntryInserts
entry_inserts s x n h a = let t = taken_from s x n a in (t.at, (place_is s x h (result s x) t).0, names_taken s x h t)

pub entry_taken : EntryTaken
entry_taken s x h some short few apart slots_left numbers_left = go (place (names s) x) refl (place_found (names s) x h.sorted)
  where
    go : (r : Option ℕ) → place (names s) x ≡ r → Found (names s) x r → (result s x).answer ≡ Ok (s.count + 1)
    go None p f = absurd (apart f.0 (omega (arith, f.1, length_names s h)) f.2)
    go (Some at) p f = ap (λ (e : Entered). e.answer) (taken_where s x at some short few p (omega arith) numbers_left)

pub entry_needs : EntryNeeds
entry_needs s x n h a =
    let t = taken_from s x n a in
    let c : n ≡ s.count + 1 = cc (sym a ∙ ap (λ (e : Entered). e.answer) t.is) in
    (c, t.some, t.short, t.few, none_same s x h (result s x) t, omega (arith, t.slots_left), t.numbers_left)

pub entry_refused : EntryRefused
entry_refused s x why a = left_refused s x (refused_from s x why a)

pub entry_keeps : EntryKeeps
entry_keeps s x h =
    ⊎_elim (λ (t : Taken s x (result s x)). subst Sound (sym (left_taken s x t)) (sound_put s x h (result s x) t))
    (λ (r : Refused s x (result s x)). subst Sound (sym (left_refused s x r)) h)
    (entry_cases s x)
