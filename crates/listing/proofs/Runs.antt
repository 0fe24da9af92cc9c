-- Entries one after another keep memory sound, and the list holds those that were taken. Assumes nothing.
use Rattle.std.proofs.Common.{ℕ, List, [], ◌∷◌, ◌++◌, sym, subst, ⊎_elim, append-nil}
use Rattle.std.specs.List.{insert}
use Rattle.std.specs.List.Sorted.{IsPermutation}
use Rattle.std.proofs.lemmas.List.Sorted.{IsPermutation-refl, IsPermutation-sym, IsPermutation-trans, IsPermutation-middle, IsPermutation-insert, IsPermutation-append_right}
use Rattle.entries.specs.Entry.{Entered}
use Rattle.listing.specs.Listing.{Listing, names, after_entry, after_entries, taken, if_taken, no_entries, Sorted, Sound}
use Rattle.listing.specs.Laws.{OneList}
use Rattle.listing.proofs.SameRows.{sorted_shuffled}
use Rattle.listing.proofs.Outcomes.{Taken, Refused, result, entry_cases, left_refused}
use Rattle.listing.proofs.Memory.{sound_none}
use Rattle.listing.proofs.Entry.{entry_keeps, names_taken}

pub entries_keep : (s : Listing) (xs : List (List ℕ)) → Sound s → Sound (after_entries s xs)
unfolding after_entries
entries_keep s [] h = h
entries_keep s (x ∷ xs) h = entries_keep (after_entry s x) xs (entry_keeps s x h)

-- an element put in among others, and put in front of all
shuffled_inserted : {X : Type 0} (x : X) (xs ys : List X) (at : ℕ) → IsPermutation (x ∷ (xs ++ ys)) (xs ++ insert ys at x)
shuffled_inserted x xs ys at =
    IsPermutation-trans _ (xs ++ x ∷ ys) _ (IsPermutation-sym _ _ (IsPermutation-middle xs x ys)) (IsPermutation-append_right xs (x ∷ ys) _ (IsPermutation-insert ys at x))

-- one entry moves the name from those that are to come into the list
one_more : (s : Listing) (x : List ℕ) (ts : List (List ℕ)) → Sound s → IsPermutation (if_taken (result s x).answer x ts ++ names s) (ts ++ names (after_entry s x))
one_more s x ts h =
    let Moves : Entered → Type 0 = λ e. IsPermutation (if_taken e.answer x ts ++ names s) (ts ++ names (after_entry s x)) in
    ⊎_elim (λ (t : Taken s x (result s x)).
    subst Moves (sym t.is)
    (subst (λ (ns : List (List ℕ)). IsPermutation (x ∷ (ts ++ names s)) (ts ++ ns)) (sym (names_taken s x h t)) (shuffled_inserted x ts (names s) t.at)))
    (λ (r : Refused s x (result s x)).
    subst Moves (sym r.1) (subst (λ (u : Listing). IsPermutation (ts ++ names s) (ts ++ names u)) (sym (left_refused s x r)) (IsPermutation-refl (ts ++ names s))))
    (entry_cases s x)

pub entries_hold : (s : Listing) (xs : List (List ℕ)) → Sound s → IsPermutation (taken s xs ++ names s) (names (after_entries s xs))
unfolding taken after_entries
entries_hold s [] h = IsPermutation-refl (names s)
entries_hold s (x ∷ xs) h =
    let u : Listing = after_entry s x in
    IsPermutation-trans (if_taken (result s x).answer x (taken u xs) ++ names s) (taken u xs ++ names u) (names (after_entries u xs))
    (one_more s x (taken u xs) h) (entries_hold u xs (entry_keeps s x h))

module _ (slots index : List ℕ) (xs : List (List ℕ)) where
  pub list_sorted : Sorted (names (after_entries (no_entries slots index) xs))
  list_sorted = (entries_keep (no_entries slots index) xs (sound_none slots index)).sorted

  pub list_holds : IsPermutation (taken (no_entries slots index) xs) (names (after_entries (no_entries slots index) xs))
  list_holds =
      subst (λ (ts : List (List ℕ)). IsPermutation ts (names (after_entries (no_entries slots index) xs))) (append-nil (taken (no_entries slots index) xs))
      (entries_hold (no_entries slots index) xs (sound_none slots index))

pub one_list : OneList
one_list slots index slots' index' xs ys =
    let ts : List (List ℕ) = taken (no_entries slots index) xs in
    let us : List (List ℕ) = taken (no_entries slots' index') ys in
    let ns : List (List ℕ) = names (after_entries (no_entries slots index) xs) in
    let ms : List (List ℕ) = names (after_entries (no_entries slots' index') ys) in
    let p : IsPermutation ts ns = list_holds slots index xs in
    let q : IsPermutation us ms = list_holds slots' index' ys in (
      list_sorted slots index xs,
      p,
      λ h. sorted_shuffled ns ms (list_sorted slots index xs) (list_sorted slots' index' ys) (IsPermutation-trans ns ts ms (IsPermutation-sym ts ns p) (IsPermutation-trans ts us ms h q)),
    )
