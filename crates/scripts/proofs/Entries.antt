-- The entries of a script are all taken, and the list closes. Assumes nothing.
use Rattle.std.proofs.Common.{◌≡◌, ℕ, suc, ◌<◌, ◌≤◌, List, [], ◌∷◌, map, length, Ok, Err, Result, sym, refl, ap, ◌∙◌, arith}
use Rattle.std.specs.List.{ContainsAt as Has}
use Rattle.std.specs.List.Sorted.{IsPermutation}
use Rattle.std.proofs.lemmas.List.Sorted.{length_permutation, IsPermutation-sym}
use Rattle.std.proofs.ByRecursion.{has_shuffled}
use Rattle.refusals.specs.Answers.{done, number_or}
use Rattle.refusals.specs.declared.Refusal.{Refusal}
use Rattle.entries.specs.Entry.{entered}
use Rattle.listing.specs.Listing.{Listing, names, counted, after_entry, after_entries, if_taken, taken, no_entries, Sorted}
use Rattle.listing.specs.Laws.{RoomFor}
use Rattle.listing.proofs.Held.{all_listed}
use Rattle.listing.proofs.SameRows.{same_sorted}
use Rattle.listing.proofs.Runs.{list_sorted, list_holds}
use Rattle.ceremony.specs.Model.{Held, Listed}
use Rattle.ceremony.specs.Steps.{with_list}
use Rattle.ceremony.specs.Draws.{listing, why}
use Rattle.scripts.specs.Script.{entry_of}
use Rattle.scripts.proofs.Chains.{Leads, more}

-- a state by the memory of its list
abbrev pub with_listing : Held → Listing → Listed
with_listing h l = record { held = with_list h l.slots l.index; count = l.count }

-- as many were taken as were entered, so each was taken
taken_few : (l : Listing) (xs : List (List ℕ)) → length (taken l xs) ≤ length xs
unfolding taken
taken_few l [] = omega arith
taken_few l (x ∷ xs) = go (entered l.slots l.index l.count x).answer (taken_few (after_entry l x) xs)
  where
    go : (r : Result ℕ Refusal) → length (taken (after_entry l x) xs) ≤ length xs → length (if_taken r x (taken (after_entry l x) xs)) ≤ suc (length xs)
    go (Ok n) h = omega arith
    go (Err w) h = omega arith

all_taken : (h : Held) (l : Listing) (xs : List (List ℕ)) → length (taken l xs) ≡ length xs → Leads (listing (with_listing h l)) (map entry_of xs) (listing (with_listing h (after_entries l xs)))
unfolding taken after_entries
all_taken h l [] e = refl
all_taken h l (x ∷ xs) e =
    let f = taken_few (after_entry l x) xs in
    go (entered l.slots l.index l.count x).answer refl (λ p. all_taken h (after_entry l x) xs p) f e
  where
    go : (r : Result ℕ Refusal) → (entered l.slots l.index l.count x).answer ≡ r
        → (length (taken (after_entry l x) xs) ≡ length xs → Leads (listing (with_listing h (after_entry l x))) (map entry_of xs) (listing (with_listing h (after_entries (after_entry l x) xs))))
        → length (taken (after_entry l x) xs) ≤ length xs
        → length (if_taken r x (taken (after_entry l x) xs)) ≡ suc (length xs)
        → Leads (listing (with_listing h l)) (entry_of x ∷ map entry_of xs) (listing (with_listing h (after_entries (after_entry l x) xs)))
    go (Ok n) a ih f e =
        more (listing (with_listing h l)) (listing (with_listing h (after_entry l x))) (listing (with_listing h (after_entries (after_entry l x) xs))) 1 x (map entry_of xs)
        (ap (λ (c : ℕ). listing (record { held = with_list h (entered l.slots l.index l.count x).slots (entered l.slots l.index l.count x).index; count = c }))
        (ap (λ (r : Result ℕ Refusal). number_or r l.count) a ∙ sym (ap (λ (r : Result ℕ Refusal). counted r l.count) a)))
        (ap (λ (r : Result ℕ Refusal). why (done r)) a)
        (ih (omega arith))
    go (Err w) a ih f e = absurd (omega arith)

-- the entries are the names of the list in another order
module _ (slots index : List ℕ) (ns xs : List (List ℕ)) (sorted : Sorted ns) (same : IsPermutation ns xs)
    (valid : (z : List ℕ) → Has ns z → (0 < length z) × (length z ≤ 64)) (room : RoomFor (no_entries slots index) (length xs)) where
  pub list_is : names (after_entries (no_entries slots index) xs) ≡ ns
  list_is =
      same_sorted _ ns (list_sorted slots index xs) sorted
      (λ z m. has_shuffled xs ns z (IsPermutation-sym ns xs same) ((all_listed slots index xs z room).0 m).0)
      (λ z m. (all_listed slots index xs z room).1 (has_shuffled ns xs z same m) (valid z m).0 (valid z m).1)

  pub entries_lead : (h : Held) → Leads (listing (with_listing h (no_entries slots index))) (map entry_of xs) (listing (with_listing h (after_entries (no_entries slots index) xs)))
  entries_lead h =
      all_taken h (no_entries slots index) xs
      (sym (length_permutation (taken (no_entries slots index) xs) (names (after_entries (no_entries slots index) xs)) (list_holds slots index xs))
      ∙ (ap length list_is ∙ sym (length_permutation ns xs same)))
