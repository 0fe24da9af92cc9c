-- One turn of the search by halving. Assumes nothing.
use Rattle.std.proofs.Common.{◌≡◌, ℕ, zero, suc, ◌+◌, ◌-◌, ◌<◌, ◌≤◌, List, [], map, length, get_or, Some, None, Ordering, sym, refl, ap, ◌∙◌, arith}
use Rattle.std.proofs.lemmas.List.{get_or-map}
use Rattle.std.proofs.lemmas.Bool.{lt-ltb, le-ltb}
use Rattle.entries.specs.Rows.{row_order, name_in}
use Rattle.entries.specs.Place.{ranked, middle, place_between}

module _ (ns : List (List ℕ)) (x : List ℕ) where
  -- what is left of the search once the row in the middle is compared, with the halvings that are left
  abbrev pub After : ℕ → ℕ → ℕ → Ordering → ℕ → Type 0
  After f low high o g =
      (high - low ≤ suc g)
      × (place_between f low high ns x ≡ ranked o (place_between g (middle low high + 1) high ns x) None (place_between g low (middle low high) ns x))

  pub halved : (f low high : ℕ) → low < high → high - low ≤ f → (g : ℕ) × After f low high (row_order (get_or ns (middle low high) []) x) g
  unfolding place_between
  halved zero low high l h = absurd (omega arith)
  halved (suc g) low high l h = (g, (h, simp (lt-ltb low high l)))

  pub closed : (f low high : ℕ) → high ≤ low → Some low ≡ place_between f low high ns x
  unfolding place_between
  closed zero low high h = refl
  closed (suc f) low high h = simp (le-ltb low high h)

-- the same by what `cmp` answers on the name in a slot
pub compared : (slots numbers x row : List ℕ) (f low high : ℕ) (o : Ordering) → low < high → high ≤ length numbers → high - low ≤ f
    → row ≡ name_in slots (get_or numbers (middle low high) 0)
    → o ≡ row_order row x
    → (g : ℕ) × After (map (name_in slots) numbers) x f low high o g
compared slots numbers x row f low high o l m h e k =
    let ns : List (List ℕ) = map (name_in slots) numbers in
    let p = halved ns x f low high l h in
    let s : row_order (get_or ns (middle low high) []) x ≡ o =
    ap (λ (z : List ℕ). row_order z x) (get_or-map (name_in slots) numbers (middle low high) 0 [] (omega arith) ∙ sym e) ∙ sym k in
    (p.0, (p.1.0, p.1.1 ∙ ap (λ (r : Ordering). ranked r (place_between p.0 (middle low high + 1) high ns x) None (place_between p.0 low (middle low high) ns x)) s))
