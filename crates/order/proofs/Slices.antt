-- The drawing of an order in the front of a slice. Assumes nothing.
use Rattle.std.proofs.Common.{◌≡◌, ℕ, ◌-◌, ◌^◌, ◌<◌, ◌≤◌, min, Bool, true, false, cond, ltb, List, ◌++◌, length, take, drop, Some, None, Option, sym, refl, ap, ◌∙◌, subst, ap₂, arith}
use Rattle.order.proofs.Names.{length_from}
use Rattle.order.proofs.Rests.{Answer, told_none, told_some, left_out, left_names}
use Rattle.order.proofs.Turns.{drawing_length, drawing_numbers}
use Rattle.order.specs.Drawings.{Drawing, drawn, run_out, drawing_of, drawn_from, drawn_order, outcome, left_in}
use Rattle.order.specs.Orders.{numbers_from}
use Rattle.std.proofs.lemmas.List.{length-take, take-append-drop}
use Rattle.std.proofs.lemmas.Bool.{lt-ltb, le-ltb}
use Rattle.uniform.specs.Bits.{bits}

-- bytes that are not too long
pub drawn_order_is : (n : ℕ) (bytes : List ℕ) (from : ℕ) → length bytes < 2 ^ 61 → drawn_order n bytes from ≡ drawn_from n (drop from (bits bytes))
unfolding drawn_order
drawn_order_is n bytes from h = rw (lt-ltb (length bytes) (2 ^ 61) h)

pub drawn_order_long : (n : ℕ) (bytes : List ℕ) (from : ℕ) → 2 ^ 61 ≤ length bytes → drawn_order n bytes from ≡ run_out
unfolding drawn_order
drawn_order_long n bytes from h = rw (le-ltb (length bytes) (2 ^ 61) h)

-- an order of n names has n numbers
pub drawn_length : (n : ℕ) (bytes : List ℕ) (from : ℕ) (ns : List ℕ) (used : ℕ) → drawn_order n bytes from ≡ drawn ns used → length ns ≡ n
unfolding drawn_order
drawn_length n bytes from ns used = go (ltb (length bytes) (2 ^ 61))
  where
    go : (t : Bool) → cond t (drawn_from n (drop from (bits bytes))) run_out ≡ drawn ns used → length ns ≡ n
    go true e = drawing_length (numbers_from 0 n) (drop from (bits bytes)) ns used (drawing_numbers n (drop from (bits bytes)) ∙ e) ∙ length_from 0 n
    go false e = absurd (let z : ◌≡◌ {A = ℕ} 0 1 = cc in omega arith)

-- what is answered, and what is left in the whole slice
abbrev pub OutcomeOf : Drawing → List ℕ → Option ℕ → List ℕ → Type 0
OutcomeOf d here r there = (r ≡ outcome d) × (there ≡ left_in d here)

pub too_long : (n : ℕ) (bytes here : List ℕ) (from : ℕ) → 2 ^ 61 ≤ length bytes → OutcomeOf (drawn_order n bytes from) here None here
too_long n bytes here from h = subst (λ d. OutcomeOf d here None here) (sym (drawn_order_long n bytes from h)) (refl, refl)

-- the first m places are lent, the names are numbered, and a reader stands in the bytes
module _ (bytes row here names there : List ℕ) (from at m x : ℕ) (is_row : row ≡ bytes) (is_at : at ≡ from) (short : length row < 2 ^ 61) (is_m : m ≡ min (length here) 65535)
    (is : names ≡ numbers_from 0 x) (is_x : x ≡ m) where
  are : names ≡ numbers_from 0 m
  are = is ∙ ap (numbers_from 0) is_x

  abbrev most : ℕ
  most = min (length here) 65535

  abbrev lent : List ℕ
  lent = take m here

  abbrev answered : Drawing
  answered = drawing_of names (drop at (bits row))

  same : drawn_order most bytes from ≡ answered
  same =
      drawn_order_is most bytes from (omega (arith, ap length is_row))
      ∙ ap₂ (λ b f. drawn_from most (drop f (bits b))) (sym is_row) (sym is_at)
      ∙ ap (λ n. drawn_from n (drop at (bits row))) (sym is_m)
      ∙ sym (ap (λ z. drawing_of z (drop at (bits row))) are ∙ drawing_numbers m (drop at (bits row)))

  pub front_out : Answer answered at lent None there → OutcomeOf (drawn_order most bytes from) here None (there ++ drop m here)
  front_out a =
      let o : answered ≡ run_out = told_none at answered a.0 in
      subst (λ d. OutcomeOf d here None (there ++ drop m here)) (sym (same ∙ o))
      (refl, ap (λ z. z ++ drop m here) (left_out answered lent there o a.1) ∙ take-append-drop m here)

  pub front_drawn : (end : ℕ) → Answer answered at lent (Some end) there → OutcomeOf (drawn_order most bytes from) here (Some (end - from)) (there ++ drop m here)
  front_drawn end a =
      let t = told_some at answered end a.0 in
      let ns = t.0 in
      let n : length ns ≡ m = drawing_length names (drop at (bits row)) ns t.1 t.2 ∙ ap length are ∙ length_from 0 m in
      let e : there ≡ ns = left_names answered lent there ns t.1 t.2 (omega (arith, length-take m here)) a.1 in
      let u : end - from ≡ t.1 = omega (arith, t.3) in
      subst (λ d. OutcomeOf d here (Some (end - from)) (there ++ drop m here)) (sym (same ∙ t.2)) (ap Some u, ap₂ (λ x y. x ++ drop y here) e (sym n))
