-- Sorted rows: any two stand in their order; parts of sorted rows; a row put in at its place. Assumes nothing.
use Rattle.std.proofs.lemmas.Grind.{common_steps}
use Rattle.std.proofs.Common.{◌≡◌, ℕ, suc, ◌+◌, ◌-◌, ◌<◌, ◌≤◌, List, [], ◌∷◌, length, get_or, Less, Greater, ap, ◌∙◌, ⊎_elim, arith}
use Rattle.std.specs.List.{insert}
use Rattle.std.proofs.lemmas.List.Edits.{length-insert}
use Rattle.std.proofs.lemmas.Cmp.{nat_list_cmp_total}
use Rattle.std.proofs.lemmas.Map.Keys.{Less-from_sorted, sorted_from_all_adjacent}
use Rattle.std.proofs.lemmas.Bool.{cases_lt, cases_order}
use Rattle.entries.specs.Rows.{row_order}
use Rattle.listing.specs.Listing.{Sorted}
use Rattle.listing.proofs.Orders.{row_less}

-- any two sorted rows stand in their order
pub sorted_pairs : (ns : List (List ℕ)) → Sorted ns → (i j : ℕ) → i < j → j < length ns → row_order (get_or ns i []) (get_or ns j []) ≡ Less
sorted_pairs ns h i j l m = Less-from_sorted row_order ns i j [] (sorted_from_all_adjacent nat_list_cmp_total ns [] h) l m

pub sorted_none : Sorted []
sorted_none i l = absurd (omega arith)

pub sorted_tail : (x : List ℕ) (xs : List (List ℕ)) → Sorted (x ∷ xs) → Sorted xs
sorted_tail x xs h i l =
    let z : suc (i + 1) ≡ suc i + 1 = omega arith in
    ap (λ (k : ℕ). row_order (get_or xs i []) (get_or (x ∷ xs) k [])) z ∙ h (suc i) (omega arith)

-- a row put in behind all lesser ones and before all greater ones
module _ (ns : List (List ℕ)) (x : List ℕ) (at : ℕ) (a : at ≤ length ns) where
  at_place : (k : ℕ) → k ≡ at → get_or (insert ns at x) k [] ≡ x
  at_place k e = grind (arith, common_steps)

  before : (k : ℕ) → k < at → get_or (insert ns at x) k [] ≡ get_or ns k []
  before k l = grind (arith, common_steps)

  behind : (k : ℕ) → at < k → get_or (insert ns at x) k [] ≡ get_or ns (k - 1) []
  behind k l = grind (arith, common_steps)

  pub sorted_inserted : Sorted ns → ((k : ℕ) → k < at → row_order (get_or ns k []) x ≡ Less) → ((k : ℕ) → at ≤ k → k < length ns → row_order (get_or ns k []) x ≡ Greater) → Sorted (insert ns at x)
  sorted_inserted h low high i l =
      let n : length (insert ns at x) ≡ length ns + 1 = length-insert ns at x a in
      ⊎_elim (λ (e : i + 1 ≡ at). (λ j. row_order (before i (omega arith) j) (at_place (i + 1) e j)) ∙ low i (omega arith))
      (⊎_elim (λ (b : i + 1 < at). (λ j. row_order (before i (omega arith) j) (before (i + 1) b j)) ∙ h i (omega arith))
      (λ (b : at < i + 1).
      let z : i + 1 - 1 ≡ i = omega arith in
      let q : get_or (insert ns at x) (i + 1) [] ≡ get_or ns i [] = behind (i + 1) b ∙ ap (λ (k : ℕ). get_or ns k []) z in
      ⊎_elim (λ (c : at < i). (λ j. row_order (behind i c j) (q j)) ∙ sorted_pairs ns h (i - 1) i (omega arith) (omega arith))
      (λ (c : i ≤ at). (λ j. row_order (at_place i (omega arith) j) (q j)) ∙ row_less (get_or ns i []) x (high i (omega arith) (omega arith)))
      (cases_lt at i)))
      (cases_order (i + 1) at)
