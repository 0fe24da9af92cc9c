-- An order holds each name once. Assumes nothing.
use Rattle.std.proofs.Common.{◌≡◌, ℕ, ◌^◌, ◌<◌, ◌≤◌, ◌⊎◌, List, length, drop, sym, refl, ◌∙◌, subst, inl, inr, zero-le, arith}
use Rattle.order.proofs.Names.{names_length, names_times, times_from, length_from}
use Rattle.order.proofs.Slices.{drawn_order_is, drawn_order_long}
use Rattle.order.proofs.Turns.{order_valid}
use Rattle.order.specs.Drawings.{told, bits_read, drawn_from, drawn_order}
use Rattle.order.specs.Laws.{EachOnce}
use Rattle.order.specs.Orders.{Order, some, none, order, Valid, names, numbers_from, written, order_names, times}
use Rattle.std.proofs.lemmas.Bool.{cases_lt}
use Rattle.uniform.specs.Bits.{bits}

pub names_once : (n : ℕ) (ks : List ℕ) → Valid n ks
    → (length (names (numbers_from 0 n) ks) ≡ n) × ((x : ℕ) → x < n → times x (names (numbers_from 0 n) ks) ≡ 1)
names_once n ks v =
    (names_length n (numbers_from 0 n) ks v, λ x h. names_times x n ks (numbers_from 0 n) v (length_from 0 n) ∙ times_from x 0 n zero-le (omega arith))

drawing_once : (n : ℕ) (bs : List ℕ) → EachOnce n (drawn_from n bs)
unfolding drawn_from order_names
drawing_once n bs = go (order n bs) refl
  where
    go : (o : Order) → order n bs ≡ o → EachOnce n (told (written (numbers_from 0 n) (order n bs)) (bits_read n bs))
    go (some ks) e = rw e (unfold written in names_once n ks (order_valid n bs ks e))
    go none e = rw e (unfold written in tt)

pub each_once_holds : (n : ℕ) (bytes : List ℕ) (from : ℕ) → EachOnce n (drawn_order n bytes from)
each_once_holds n bytes from = go (cases_lt (length bytes) (2 ^ 61))
  where
    go : (length bytes < 2 ^ 61) ⊎ (2 ^ 61 ≤ length bytes) → EachOnce n (drawn_order n bytes from)
    go (inl h) = subst (EachOnce n) (sym (drawn_order_is n bytes from h)) (drawing_once n (drop from (bits bytes)))
    go (inr h) = subst (EachOnce n) (sym (drawn_order_long n bytes from h)) tt
