-- The sum of rows: its length, one row at the end, one row put in another's place, the rows in any order. Assumes nothing.
use lib.Bits.{bit_xor, xor_assoc}
use Rattle.std.proofs.Common.{◌≡◌, ℕ, zero, suc, ◌<◌, List, [], ◌∷◌, ◌++◌, length, get_or, set, replicate, sym, refl, ap, ◌∙◌, ap₂, arith}
use lib.ListN.{length-replicate}
use Rattle.std.proofs.lemmas.Nat.{xor_comm}
use Rattle.std.proofs.lemmas.List.Sorted.{IsPermutation-keeps}
use Rattle.std.specs.List.{swap}
use Rattle.sum.specs.Laws.{AnyOrder, OneMore}
use Rattle.sum.specs.Sums.{xor_bytes, sum_from, sum_of}

pub length_xor : (a b : List ℕ) → length (xor_bytes a b) ≡ length a
unfolding xor_bytes
length_xor [] b = refl
length_xor (x ∷ a) [] = refl
length_xor (x ∷ a) (y ∷ b) = ap suc (length_xor a b)

length_from : (s : List ℕ) (rows : List (List ℕ)) → length (sum_from s rows) ≡ length s
unfolding sum_from
length_from s [] = refl
length_from s (row ∷ rows) = length_from (xor_bytes s row) rows ∙ length_xor s row

pub length_sum : (L : ℕ) (rows : List (List ℕ)) → length (sum_of L rows) ≡ L
unfolding sum_of
length_sum L rows = length_from (replicate L 0) rows ∙ length-replicate L 0

-- two rows can be added in either order, and so a row as well at the end
xor_turn : (s a b : List ℕ) → xor_bytes (xor_bytes s a) b ≡ xor_bytes (xor_bytes s b) a
unfolding xor_bytes
xor_turn [] a b = refl
xor_turn (x ∷ s) [] [] = refl
xor_turn (x ∷ s) [] (z ∷ b) = refl
xor_turn (x ∷ s) (y ∷ a) [] = refl
xor_turn (x ∷ s) (y ∷ a) (z ∷ b) = ap₂ ◌∷◌ (xor_assoc x y z ∙ ap (bit_xor x) (xor_comm y z) ∙ sym (xor_assoc x z y)) (xor_turn s a b)

sum_late : (s a : List ℕ) (rows : List (List ℕ)) → sum_from (xor_bytes s a) rows ≡ xor_bytes (sum_from s rows) a
unfolding sum_from
sum_late s a [] = refl
sum_late s a (r ∷ rows) = ap (λ z. sum_from z rows) (xor_turn s a r) ∙ sum_late (xor_bytes s r) a rows

sum_last : (s : List ℕ) (rows : List (List ℕ)) (row : List ℕ) → sum_from s (rows ++ (row ∷ [])) ≡ xor_bytes (sum_from s rows) row
unfolding sum_from
sum_last s [] row = refl
sum_last s (r ∷ rows) row = sum_last (xor_bytes s r) rows row

pub one_more_holds : (before row after : List ℕ) → after ≡ xor_bytes before row → OneMore before row after
unfolding sum_of
one_more_holds before row after e L rows h = e ∙ ap (λ z. xor_bytes z row) h ∙ sym (sum_last (replicate L 0) rows row)

-- all rows but row i
pub but : ℕ → List (List ℕ) → List (List ℕ)
but i [] = []
but zero (r ∷ rows) = rows
but (suc i) (r ∷ rows) = r ∷ but i rows

put_in : (s : List ℕ) (rows : List (List ℕ)) (i : ℕ) (mine : List ℕ) → i < length rows → sum_from s (set rows i mine) ≡ xor_bytes (sum_from s (but i rows)) mine
unfolding sum_from but
put_in s [] i mine h = absurd (omega arith)
put_in s (r ∷ rows) zero mine h = sum_late s mine rows
put_in s (r ∷ rows) (suc i) mine h = put_in (xor_bytes s r) rows i mine (omega arith)

taken_out : (s : List ℕ) (rows : List (List ℕ)) (i : ℕ) (d : List ℕ) → i < length rows → sum_from s rows ≡ xor_bytes (sum_from s (but i rows)) (get_or rows i d)
unfolding sum_from but
taken_out s [] i d h = absurd (omega arith)
taken_out s (r ∷ rows) zero d h = sum_late s r rows
taken_out s (r ∷ rows) (suc i) d h = taken_out (xor_bytes s r) rows i d (omega arith)

-- row i as the last one added to the sum of the others
pub sum_set : (L : ℕ) (rows : List (List ℕ)) (i : ℕ) (mine : List ℕ) → i < length rows → sum_of L (set rows i mine) ≡ xor_bytes (sum_of L (but i rows)) mine
unfolding sum_of
sum_set L rows i mine h = put_in (replicate L 0) rows i mine h

-- the first row against row j, and any two against one another
swap_first : (s r : List ℕ) (rows : List (List ℕ)) (j : ℕ) (d : List ℕ) → j < length rows
    → sum_from (xor_bytes s (get_or rows j d)) (set rows j r) ≡ sum_from (xor_bytes s r) rows
swap_first s r rows j d h =
    put_in (xor_bytes s (get_or rows j d)) rows j r h
    ∙ ap (λ z. xor_bytes z r) (sum_late s (get_or rows j d) (but j rows))
    ∙ xor_turn (sum_from s (but j rows)) (get_or rows j d) r
    ∙ ap (λ z. xor_bytes z (get_or rows j d)) (sym (sum_late s r (but j rows)))
    ∙ sym (taken_out (xor_bytes s r) rows j d h)

swap_any : (s : List ℕ) (rows : List (List ℕ)) (i j : ℕ) (d : List ℕ) → i < length rows → j < length rows
    → sum_from s (set (set rows i (get_or rows j d)) j (get_or rows i d)) ≡ sum_from s rows
unfolding sum_from
swap_any s [] i j d h l = absurd (omega arith)
swap_any s (r ∷ rows) zero zero d h l = refl
swap_any s (r ∷ rows) zero (suc j) d h l = swap_first s r rows j d (omega arith)
swap_any s (r ∷ rows) (suc i) zero d h l = swap_first s r rows i d (omega arith)
swap_any s (r ∷ rows) (suc i) (suc j) d h l = swap_any (xor_bytes s r) rows i j d (omega arith) (omega arith)

pub any_order_holds : AnyOrder
unfolding sum_of
any_order_holds L rows again h = IsPermutation-keeps rows (λ those. sum_from (replicate L 0) those ≡ sum_from (replicate L 0) rows) refl step again h
  where
    step : (those : List (List ℕ)) (i j : ℕ) → i < length those → j < length those → sum_from (replicate L 0) those ≡ sum_from (replicate L 0) rows
        → sum_from (replicate L 0) (swap those i j) ≡ sum_from (replicate L 0) rows
    step [] i j h l e = e
    step (r ∷ those) i j h l e = swap_any (replicate L 0) (r ∷ those) i j r h l ∙ e
