-- Halving among sorted rows finds a row or its place. Assumes nothing.
use Rattle.std.proofs.Common.{◌≡◌, ℕ, zero, suc, ◌+◌, ◌-◌, ◌<◌, ◌≤◌, ltb, List, [], length, get_or, Some, None, Option, Ordering, Less, Equal, Greater, refl, ap, ◌∙◌, ⊎_elim, arith, MatchOption}
use Rattle.std.proofs.lemmas.Bool.{cases_order, cond_both, ltb-true, ltb-false}
use Rattle.entries.specs.Rows.{row_order}
use Rattle.entries.specs.Place.{ranked, middle, place, place_between}
use Rattle.listing.specs.Listing.{Sorted}
use Rattle.listing.specs.Laws.{PlaceFound}
use Rattle.listing.proofs.Orders.{row_equal, row_trans, row_less, row_greater}
use Rattle.listing.proofs.SortedRows.{sorted_pairs}

module _ (ns : List (List ℕ)) (x : List ℕ) where
  -- all rows below a place come before x, and all from a place on after it
  abbrev pub Lower : ℕ → Type 0
  Lower at = (k : ℕ) → k < at → row_order (get_or ns k []) x ≡ Less

  abbrev pub Higher : ℕ → Type 0
  Higher at = (k : ℕ) → at ≤ k → k < length ns → row_order (get_or ns k []) x ≡ Greater

  abbrev pub Found : Option ℕ → Type 0
  Found r = MatchOption r ((k : ℕ) × (k < length ns) × (get_or ns k [] ≡ x)) (λ at. (at ≤ length ns) × Lower at × Higher at)

module _ (ns : List (List ℕ)) (x : List ℕ) (s : Sorted ns) where
  -- a lesser row in the middle: so are all before it
  lower_to : (m : ℕ) → m < length ns → row_order (get_or ns m []) x ≡ Less → Lower ns x (m + 1)
  lower_to m l h k b =
      ⊎_elim (λ (e : k ≡ m). ap (λ (j : ℕ). row_order (get_or ns j []) x) e ∙ h)
      (⊎_elim (λ (c : k < m). row_trans (get_or ns k []) (get_or ns m []) x (sorted_pairs ns s k m c l) h) (λ (c : m < k). absurd (omega arith)))
      (cases_order k m)

  higher_from : (m : ℕ) → m < length ns → row_order (get_or ns m []) x ≡ Greater → Higher ns x m
  higher_from m l h k a b =
      ⊎_elim (λ (e : k ≡ m). ap (λ (j : ℕ). row_order (get_or ns j []) x) e ∙ h)
      (⊎_elim (λ (c : k < m). absurd (omega arith))
      (λ (c : m < k). row_greater x (get_or ns k []) (row_trans x (get_or ns m []) (get_or ns k []) (row_less (get_or ns m []) x h) (sorted_pairs ns s m k c b))))
      (cases_order k m)

  -- one turn: the row in the middle is compared
  turn : (m : ℕ) (up down : Option ℕ) (o : Ordering) → m < length ns → row_order (get_or ns m []) x ≡ o
      → (Lower ns x (m + 1) → Found ns x up) → (Higher ns x m → Found ns x down) → Found ns x (ranked o up None down)
  turn m up down Less l e f g = f (lower_to m l e)
  turn m up down Equal l e f g = (m, l, row_equal (get_or ns m []) x e)
  turn m up down Greater l e f g = g (higher_from m l e)

  pub between_found : (f low high : ℕ) → low ≤ high → high ≤ length ns → high - low ≤ f → Lower ns x low → Higher ns x high → Found ns x (place_between f low high ns x)
  unfolding place_between
  between_found zero low high l h d p q = (omega arith, p, λ k a b. q k (omega arith) b)
  between_found (suc f) low high l h d p q =
      let m : ℕ = middle low high in
      let up : Option ℕ = place_between f (m + 1) high ns x in
      let down : Option ℕ = place_between f low m ns x in
      cond_both (ltb low high) (ranked (row_order (get_or ns m []) x) up None down) (Some low) (Found ns x)
      (λ e.
      let less : low < high = ltb-true low high e in
      turn m up down (row_order (get_or ns m []) x) (omega arith) refl
      (λ a. between_found f (m + 1) high (omega arith) h (omega arith) a q) (λ a. between_found f low m (omega arith) (omega arith) (omega arith) p a))
      (λ e. (omega arith, p, λ k a b. q k (omega (arith, ltb-false low high e)) b))

pub place_found : PlaceFound
unfolding place
place_found ns x s = between_found ns x s (length ns) 0 (length ns) (omega arith) (omega arith) (omega arith) (λ k l. absurd (omega arith)) (λ k a b. absurd (omega arith))
