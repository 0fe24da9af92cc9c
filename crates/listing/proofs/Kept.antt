-- What one entry leaves in the list: the names before it, the new one where there is room, and the room for the next. Assumes nothing.
use Rattle.std.proofs.lemmas.Grind.{common_steps}
use Rattle.std.proofs.Common.{◌≡◌, ℕ, suc, ◌<◌, ◌≤◌, List, [], ◌∷◌, length, Some, None, Option, sym, refl, ap, ◌∙◌, subst, ⊎_elim, arith}
use Rattle.std.specs.List.{insert, ContainsAt as Has}
use Rattle.std.proofs.lemmas.List.Sorted.{IsPermutation-insert}
use Rattle.std.proofs.ByRecursion.{has_get_or, has_shuffled}
use Rattle.entries.specs.Rows.{longest_name}
use Rattle.entries.specs.Place.{place}
use Rattle.entries.specs.Entry.{Entered}
use Rattle.listing.specs.Listing.{Listing, names, after_entry, Sound}
use Rattle.listing.specs.Laws.{RoomFor}
use Rattle.listing.proofs.Elements.{has_head, has_tail}
use Rattle.listing.proofs.Search.{Found, place_found}
use Rattle.listing.proofs.Outcomes.{Taken, Refused, result, put, entry_cases, taken_where, left_refused}
use Rattle.listing.proofs.Entry.{names_taken}

module _ (s : Listing) (x : List ℕ) (h : Sound s) where
  -- what the list held before an entry it holds after it
  pub still_held : (z : List ℕ) → Has (names s) z → Has (names (after_entry s x)) z
  still_held z k =
      ⊎_elim (λ (t : Taken s x (result s x)).
      subst (λ (ns : List (List ℕ)). Has ns z) (sym (names_taken s x h t)) (has_shuffled (x ∷ names s) (insert (names s) t.at x) z (IsPermutation-insert (names s) t.at x) (has_tail x (names s) z k)))
      (λ (r : Refused s x (result s x)). subst (λ (u : Listing). Has (names u) z) (sym (left_refused s x r)) k)
      (entry_cases s x)

  -- a name that is refused although there is room stands in the list
  refused_held : (n : ℕ) → RoomFor s (suc n) → 0 < length x → length x ≤ longest_name → Refused s x (result s x) → Has (names s) x
  refused_held n m a l r = go (place (names s) x) refl (place_found (names s) x h.sorted)
    where
      go : (o : Option ℕ) → place (names s) x ≡ o → Found (names s) x o → Has (names s) x
      go None p f = subst (Has (names s)) f.2 (has_get_or (names s) f.0 [] f.1)
      go (Some at) p f =
          let e : result s x ≡ put s x at = taken_where s x at a l (omega (arith, m.0)) p (omega (arith, m.1)) (omega (arith, m.2)) in
          let z : ◌≡◌ {A = ℕ} 0 1 = cc (ap (λ (u : Entered). u.answer) (sym e ∙ r.1)) in
          absurd (omega arith)

  pub now_held : (n : ℕ) → RoomFor s (suc n) → 0 < length x → length x ≤ longest_name → Has (names (after_entry s x)) x
  now_held n m a l =
      ⊎_elim (λ (t : Taken s x (result s x)).
      subst (λ (ns : List (List ℕ)). Has ns x) (sym (names_taken s x h t)) (has_shuffled (x ∷ names s) (insert (names s) t.at x) x (IsPermutation-insert (names s) t.at x) (has_head x (names s))))
      (λ (r : Refused s x (result s x)). still_held x (refused_held n m a l r))
      (entry_cases s x)

  -- an entry takes the room of one name at most
  pub room_left : (n : ℕ) → RoomFor s (suc n) → RoomFor (after_entry s x) n
  room_left n m = grind (arith, common_steps)
