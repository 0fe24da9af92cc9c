-- How few rows of one party give no order. Assumes nothing.
use Rattle.std.proofs.Common.{◌≡◌, ℕ, suc, ◌+◌, ◌*◌, ◌^◌, ◌<◌, ◌≤◌, List, length, set, sym, refl, ap, ◌∙◌, le_trans, lt_of_le_of_lt, mul-le-mul_right, mul_assoc, mul_comm, lt_of_mul-lt-mul_right, mul-le-mul_left, mul-lt-mul_of_pos_right, lit<, lit≤, pow_pos}
use Rattle.counting.proofs.Draws.{alone_holds}
use Rattle.counting.proofs.FewHeads.{few_heads_holds, cancel}
use Rattle.counting.proofs.Rows.{count_same}
use Rattle.counting.proofs.Seldom.{few_mono, seldom_order}
use Rattle.counting.specs.Counting.{count, few, is_none}
use Rattle.counting.specs.Draws.{drawn}
use Rattle.counting.specs.Rows.{bytes_of}
use Rattle.order.specs.Orders.{Order, some, none, order, numbers_from, written, order_names}
use Rattle.uniform.proofs.Widths.{width_least}
use Rattle.uniform.specs.Draws.{width}

none_written : (n : ℕ) (o : Order) → is_none (written (numbers_from 0 n) o) ≡ is_none o
unfolding is_none written
none_written n (some ks) = refl
none_written n none = refl

pub seldom_out_draw_holds : (n L w t : ℕ) (parties : List (List ℕ)) (i : ℕ) → i < length parties → width n ≤ w → w * t ≤ 8 * L →
    count (8 * L) (λ mine. is_none (drawn n L (set parties i (bytes_of L mine)))) * 2 ^ t ≤ few n t * 2 ^ (8 * L)
seldom_out_draw_holds n L w t parties i l fits room = rw turn (seldom_order n w fits t (8 * L) room)
  where
    turn : count (8 * L) (λ mine. is_none (drawn n L (set parties i (bytes_of L mine)))) ≡ count (8 * L) (λ r. is_none (order n r))
    turn =
        alone_holds n L parties i is_none l
        ∙ count_same (8 * L) (λ r. is_none (order_names n r)) (λ r. is_none (order n r)) (λ r e. unfold order_names in none_written n (order n r))

rarely : (X A K T f : ℕ) → 0 < T → X * K ≤ f * T → f * A < K → X * A < T
rarely X A K T f pos u v = lt_of_mul-lt-mul_right K (rw (turn X A K, mul_comm T K) (lt_of_le_of_lt (mul-le-mul_right A u) (rw (turn f T A) (mul-lt-mul_of_pos_right v pos))))
  where
    turn : (a b c : ℕ) → a * b * c ≡ a * c * b
    turn a b c = mul_assoc a b c ∙ ap (λ z. a * z) (mul_comm b c) ∙ sym (mul_assoc a c b)

pub enough_holds : (m d p q w s : ℕ) → p ≤ q → (p + q) ^ (m + d) * 2 ^ s < 2 ^ (m + d) * (p ^ m * q ^ d) →
    (n L : ℕ) (parties : List (List ℕ)) (i : ℕ) → i < length parties → n ≤ suc m → n ≤ 2 ^ w → w * (m + d) ≤ 8 * L →
    count (8 * L) (λ mine. is_none (drawn n L (set parties i (bytes_of L mine)))) * 2 ^ s < 2 ^ (8 * L)
enough_holds m d p q w s le num n L parties i l small fits room =
    rarely (count (8 * L) (λ mine. is_none (drawn n L (set parties i (bytes_of L mine))))) (2 ^ s) (2 ^ (m + d)) (2 ^ (8 * L)) (few n (m + d))
    (pow_pos (8 * L)) (seldom_out_draw_holds n L w (m + d) parties i l (width_least n w fits) room)
    (lt_of_le_of_lt (mul-le-mul_right (2 ^ s) (few_mono n (suc m) (m + d) small))
    (cancel (few (suc m) (m + d)) (2 ^ s) (p ^ m * q ^ d) (2 ^ (m + d)) ((p + q) ^ (m + d)) (few_heads_holds p q le m d) num))

pub enough_1400_holds : (n L : ℕ) (parties : List (List ℕ)) (i : ℕ) → i < length parties → n ≤ 1400 → 8192 ≤ L →
    count (8 * L) (λ mine. is_none (drawn n L (set parties i (bytes_of L mine)))) * 2 ^ 1000 < 2 ^ (8 * L)
enough_1400_holds n L parties i l small long =
    enough_holds 1399 4558 3 10 11 1000 (lit≤ tt) (lit< tt) n L parties i l small (le_trans small (lit≤ tt)) (le_trans {m = 8 * 8192} (lit≤ tt) (mul-le-mul_left 8 long))
