-- A fault of a name, by what stands before it. Assumes nothing.
use Rattle.std.proofs.Common.{◌≡◌, ℕ, ◌+◌, List, [], ◌∷◌, Some, Option, Ordering, Less, Equal, Greater, refl, ap, ◌∙◌, add-one}
use Rattle.std.specs.Cmp.Lexicographic.{slice_partial_cmp}
use Rattle.std.specs.Ordering.{is_lt, is_some_and, nat_cmp, ordering_then, partial_ordering_then}
use Rattle.entries.specs.Rows.{row_order}
use Rattle.protocol.specs.Check.{fault_in_name, name_before, name_fault}
use Rattle.protocol.specs.Layout.{name_at, name_of}

-- `<` of rows is their order
less_then : (o : Ordering) (p : Option Ordering) (q : Ordering) → is_some_and is_lt p ≡ is_lt q → is_some_and is_lt (partial_ordering_then (Some o) p) ≡ is_lt (ordering_then o q)
less_then Less p q h = refl
less_then Equal p q h = h
less_then Greater p q h = refl

pub less_is : (xs ys : List ℕ) → is_some_and is_lt (slice_partial_cmp (λ (x y : ℕ). Some (nat_cmp x y)) xs ys) ≡ is_lt (row_order xs ys)
less_is [] [] = refl
less_is [] (y ∷ ys) = refl
less_is (x ∷ xs) [] = refl
less_is (x ∷ xs) (y ∷ ys) = less_then (nat_cmp x y) _ _ (less_is xs ys)

module _ (bytes : List ℕ) where
  pub name_fault_is : (b before : List ℕ) (k n : ℕ) → b ≡ bytes → n ≡ k → before ≡ name_before bytes k → fault_in_name b (name_at b n) before ≡ name_fault bytes k
  name_fault_is b before k n e f g =
      ap (λ (z : List ℕ). fault_in_name z (name_at z n) before) e
      ∙ (ap (λ (i : ℕ). fault_in_name bytes (name_at bytes i) before) f ∙ ap (fault_in_name bytes (name_at bytes k)) g)

  pub before_more : (b row : List ℕ) (k n : ℕ) → b ≡ bytes → n ≡ k → row ≡ name_of b n → row ≡ name_before bytes (k + 1)
  before_more b row k n e f h = rw (add-one k) (h ∙ (ap (λ (z : List ℕ). name_of z n) e ∙ ap (name_of bytes) f))
