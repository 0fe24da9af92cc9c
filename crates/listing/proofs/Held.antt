-- Which names the list holds where there is room for all entries. Assumes nothing.
use Rattle.std.proofs.Common.{◌≡◌, ℕ, ◌<◌, ◌≤◌, ◌⊎◌, List, [], ◌∷◌, length, Ok, Err, Result, ap, subst, inl, inr, ⊎_elim, arith}
use Rattle.std.specs.List.{ContainsAt as Has}
use Rattle.std.proofs.lemmas.List.Sorted.{IsPermutation-sym}
use Rattle.std.proofs.ByRecursion.{has_shuffled}
use Rattle.refusals.specs.declared.Refusal.{Refusal}
use Rattle.entries.specs.Rows.{longest_name}
use Rattle.listing.specs.Listing.{Listing, names, after_entry, after_entries, taken, if_taken, no_entries, Sound}
use Rattle.listing.specs.Laws.{RoomFor, AllListed, AnyOrder}
use Rattle.listing.proofs.Elements.{has_none, has_head, has_tail, has_cases}
use Rattle.listing.proofs.SameRows.{same_sorted}
use Rattle.listing.proofs.Outcomes.{result}
use Rattle.listing.proofs.Memory.{sound_none, length_names, name_lengths}
use Rattle.listing.proofs.Entry.{entry_keeps}
use Rattle.listing.proofs.Kept.{still_held, now_held, room_left}
use Rattle.listing.proofs.Runs.{entries_keep, list_sorted, list_holds}

-- every name of sound memory has 1 to 64 bytes
pub held_lengths : (s : Listing) → Sound s → (z : List ℕ) → Has (names s) z → (0 < length z) × (length z ≤ longest_name)
held_lengths s h z k =
    subst (λ (x : List ℕ). (0 < length x) × (length x ≤ longest_name)) (k.2 []) (name_lengths s h k.0 (omega (arith, k.1, length_names s h)))

-- what was taken was entered
if_taken_cases : (r : Result ℕ Refusal) (x : List ℕ) (ts : List (List ℕ)) (z : List ℕ) → Has (if_taken r x ts) z → (x ≡ z) ⊎ Has ts z
if_taken_cases (Ok n) x ts z h = has_cases x ts z h
if_taken_cases (Err why) x ts z h = inr h

pub taken_entered : (s : Listing) (xs : List (List ℕ)) (z : List ℕ) → Has (taken s xs) z → Has xs z
unfolding taken
taken_entered s [] z h = h
taken_entered s (x ∷ xs) z h =
    ⊎_elim (λ (e : x ≡ z). subst (Has (x ∷ xs)) e (has_head x xs)) (λ (k : Has (taken (after_entry s x) xs) z). has_tail x xs z (taken_entered (after_entry s x) xs z k))
    (if_taken_cases (result s x).answer x (taken (after_entry s x) xs) z h)

pub entries_held : (s : Listing) (xs : List (List ℕ)) (z : List ℕ) → Sound s → RoomFor s (length xs) → 0 < length z → length z ≤ longest_name
    → Has (names s) z ⊎ Has xs z → Has (names (after_entries s xs)) z
unfolding after_entries
entries_held s [] z h m a l (inl k) = k
entries_held s [] z h m a l (inr k) = absurd (has_none z k)
entries_held s (x ∷ xs) z h m a l k =
    entries_held (after_entry s x) xs z (entry_keeps s x h) (room_left s x h (length xs) m) a l
    (⊎_elim (λ (b : Has (names s) z). inl (still_held s x h z b))
    (λ (b : Has (x ∷ xs) z).
    ⊎_elim (λ (e : x ≡ z).
    inl (subst (Has (names (after_entry s x))) e (now_held s x h (length xs) m (omega (arith, ap length e)) (omega (arith, ap length e)))))
    (λ (c : Has xs z). inr c)
    (has_cases x xs z b))
    k)

pub all_listed : AllListed
all_listed slots index xs z m =
    let s : Listing = no_entries slots index in
    let h : Sound s = sound_none slots index in (
      λ k.
          let b = held_lengths (after_entries s xs) (entries_keep s xs h) z k in
          (taken_entered s xs z (has_shuffled (names (after_entries s xs)) (taken s xs) z (IsPermutation-sym (taken s xs) (names (after_entries s xs)) (list_holds slots index xs)) k), b.0, b.1),
      λ k a l. entries_held s xs z h m a l (inr k),
    )

pub any_order : AnyOrder
any_order slots index slots' index' xs ys m n f g =
    let ns : List (List ℕ) = names (after_entries (no_entries slots index) xs) in
    let ms : List (List ℕ) = names (after_entries (no_entries slots' index') ys) in
    same_sorted ns ms (list_sorted slots index xs) (list_sorted slots' index' ys)
    (λ z k. let b = (all_listed slots index xs z m).0 k in (all_listed slots' index' ys z n).1 (f z b.0) b.1 b.2)
    (λ z k. let b = (all_listed slots' index' ys z n).0 k in (all_listed slots index xs z m).1 (g z b.0) b.1 b.2)
