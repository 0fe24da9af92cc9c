-- Sorted rows with the same elements are the same rows. Assumes nothing.
use Rattle.std.proofs.Common.{◌≡◌, ℕ, suc, List, [], ◌∷◌, Less, sym, refl, ap, ◌∙◌, ⊎_elim, arith}
use Rattle.std.specs.List.Sorted.{IsPermutation}
use Rattle.std.specs.List.{ContainsAt as Has}
use Rattle.std.proofs.lemmas.List.Sorted.{IsPermutation-sym}
use Rattle.std.proofs.ByRecursion.{has_shuffled}
use Rattle.entries.specs.Rows.{row_order}
use Rattle.listing.specs.Listing.{Sorted}
use Rattle.listing.proofs.Orders.{less_apart, less_once}
use Rattle.listing.proofs.Elements.{has_none, has_head, has_tail, has_cases}
use Rattle.listing.proofs.SortedRows.{sorted_pairs, sorted_tail}

-- the first of sorted rows comes before each of the others
pub head_less : (x : List ℕ) (xs : List (List ℕ)) (z : List ℕ) → Sorted (x ∷ xs) → Has xs z → row_order x z ≡ Less
head_less x xs z s h = ap (row_order x) (sym (h.2 [])) ∙ sorted_pairs (x ∷ xs) s 0 (suc h.0) (omega arith) (omega (arith, h.1))

-- the first rows are the same, as neither comes before the other
same_head : (x y : List ℕ) (xs ys : List (List ℕ)) → Sorted (x ∷ xs) → Sorted (y ∷ ys) → Has (x ∷ xs) y → Has (y ∷ ys) x → x ≡ y
same_head x y xs ys s t h k =
    ⊎_elim (λ (e : x ≡ y). e)
    (λ (a : Has xs y).
    ⊎_elim (λ (e : y ≡ x). sym e) (λ (b : Has ys x). absurd (less_once x y (head_less x xs y s a) (head_less y ys x t b))) (has_cases y ys x k))
    (has_cases x xs y h)

-- a row of the rest is not the first one
in_rest : (x y : List ℕ) (xs ys : List (List ℕ)) → Sorted (x ∷ xs) → x ≡ y → ((z : List ℕ) → Has (x ∷ xs) z → Has (y ∷ ys) z) → (z : List ℕ) → Has xs z → Has ys z
in_rest x y xs ys s e f z h =
    ⊎_elim (λ (k : y ≡ z). absurd (less_apart x z (head_less x xs z s h) (e ∙ k))) (λ (k : Has ys z). k) (has_cases y ys z (f z (has_tail x xs z h)))

pub same_sorted : (xs ys : List (List ℕ)) → Sorted xs → Sorted ys → ((z : List ℕ) → Has xs z → Has ys z) → ((z : List ℕ) → Has ys z → Has xs z) → xs ≡ ys
same_sorted [] [] s t f g = refl
same_sorted [] (y ∷ ys) s t f g = absurd (has_none y (g y (has_head y ys)))
same_sorted (x ∷ xs) [] s t f g = absurd (has_none x (f x (has_head x xs)))
same_sorted (x ∷ xs) (y ∷ ys) s t f g =
    let e : x ≡ y = same_head x y xs ys s t (g y (has_head y ys)) (f x (has_head x xs)) in
    let r : xs ≡ ys =
    same_sorted xs ys (sorted_tail x xs s) (sorted_tail y ys t) (in_rest x y xs ys s e f) (in_rest y x ys xs t (sym e) g) in
    λ i. e i ∷ r i

pub sorted_shuffled : (xs ys : List (List ℕ)) → Sorted xs → Sorted ys → IsPermutation xs ys → xs ≡ ys
sorted_shuffled xs ys s t h =
    same_sorted xs ys s t (λ z. has_shuffled xs ys z h) (λ z. has_shuffled ys xs z (IsPermutation-sym xs ys h))
