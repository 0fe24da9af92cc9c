-- The whole draw, from the bytes that the parties put in to the names in order. Assumes nothing.
use Rattle.std.proofs.Common.{◌≡◌, ℕ, ◌*◌, ◌^◌, ◌<◌, Bool, List, length, set, sym, refl, ap, ◌∙◌, arith}
use Rattle.counting.proofs.Arrangements.{row_of, row_valid, written_is, fair_names, names_arranged}
use Rattle.counting.proofs.Parties.{others, others_are, others_long, sum_mine}
use Rattle.counting.proofs.Places.{zeros, zeros_valid}
use Rattle.counting.proofs.Renamed.{tally_renamed}
use Rattle.counting.proofs.Rows.{count_same, count_bits, count_added}
use Rattle.counting.proofs.Uniform.{uniform_order}
use Rattle.counting.specs.Counting.{count, tally, is_order, gives}
use Rattle.counting.specs.Draws.{drawn, renamed}
use Rattle.counting.specs.Orders.{Arrangement}
use Rattle.counting.specs.Rows.{add_bits, bytes_of}
use Rattle.order.proofs.Slices.{drawn_order_is}
use Rattle.order.specs.Drawings.{drawn_order, told, bits_read, drawn_from}
use Rattle.order.specs.Orders.{Order, some, none, order, names, numbers_from, written, order_names}
use Rattle.sum.proofs.Sums.{length_sum}
use Rattle.sum.specs.Sums.{sum_of}
use Rattle.uniform.specs.Bits.{bits}

-- what the code draws from the sum
pub is_drawn_holds : (n L : ℕ) (parties : List (List ℕ)) → L < 2 ^ 61
    → drawn_order n (sum_of L parties) 0 ≡ told (drawn n L parties) (bits_read n (bits (sum_of L parties)))
unfolding drawn drawn_from
is_drawn_holds n L parties h = drawn_order_is n (sum_of L parties) 0 (omega (arith, length_sum L parties))

-- whatever the others put in: each outcome comes from as many rows of party i as if they were drawn from alone
pub alone_holds : (n L : ℕ) (parties : List (List ℕ)) (i : ℕ) (F : Order → Bool) → i < length parties →
    count (8 * L) (λ mine. F (drawn n L (set parties i (bytes_of L mine)))) ≡ count (8 * L) (λ mine. F (order_names n mine))
unfolding drawn
alone_holds n L parties i F l =
    count_bits (8 * L) (λ mine. F (order_names n (bits (sum_of L (set parties i (bytes_of L mine))))))
    (λ mine. F (order_names n (add_bits (others L parties i l) mine))) (λ mine e b. ap (λ r. F (order_names n r)) (sum_mine L parties i l mine e b))
    ∙ count_added (8 * L) (others L parties i l) (λ r. F (order_names n r)) (others_long L parties i l) (others_are L parties i l)

pub fair_draw_holds : (n L : ℕ) (parties : List (List ℕ)) (i : ℕ) (p q : List ℕ) → i < length parties → Arrangement n p → Arrangement n q →
    count (8 * L) (λ mine. is_order p (drawn n L (set parties i (bytes_of L mine)))) ≡
    count (8 * L) (λ mine. is_order q (drawn n L (set parties i (bytes_of L mine))))
fair_draw_holds n L parties i p q l a c =
    alone_holds n L parties i (is_order p) l ∙ fair_names n p q a c (8 * L) ∙ sym (alone_holds n L parties i (is_order q) l)

gives_written : (n : ℕ) (G : List ℕ → Bool) (o : Order) → gives G (written (numbers_from 0 n) o) ≡ gives (λ ks. G (names (numbers_from 0 n) ks)) o
unfolding gives written
gives_written n G (some ks) = refl
gives_written n G none = refl

-- the rows of b bits with a property of arrangements: those of one arrangement, times the orders with that property
pub spread : (n b : ℕ) (p : List ℕ) (G : List ℕ → Bool) → Arrangement n p →
    count b (λ r. gives G (order_names n r)) ≡ count b (λ r. is_order p (order_names n r)) * tally n (λ ks. G (names (numbers_from 0 n) ks))
spread n b p G a =
    count_same b (λ r. gives G (order_names n r)) (λ r. gives (λ ks. G (names (numbers_from 0 n) ks)) (order n r)) (λ r e. unfold order_names in gives_written n G (order n r))
    ∙ uniform_order n (row_of n p a) (row_valid n p a) (λ ks. G (names (numbers_from 0 n) ks)) b
    ∙ ap (λ z. z * tally n (λ ks. G (names (numbers_from 0 n) ks)))
    (sym (count_same b (λ r. is_order p (order_names n r)) (λ r. is_order (row_of n p a) (order n r)) (λ r e. written_is n p a r)))

pub uniform_draw_holds : (n L : ℕ) (parties : List (List ℕ)) (i : ℕ) (p : List ℕ) (G : List ℕ → Bool) → i < length parties → Arrangement n p →
    count (8 * L) (λ mine. gives G (drawn n L (set parties i (bytes_of L mine)))) ≡
    count (8 * L) (λ mine. is_order p (drawn n L (set parties i (bytes_of L mine)))) * tally n (λ ks. G (names (numbers_from 0 n) ks))
uniform_draw_holds n L parties i p G l a =
    alone_holds n L parties i (gives G) l ∙ spread n (8 * L) p G a
    ∙ ap (λ z. z * tally n (λ ks. G (names (numbers_from 0 n) ks))) (sym (alone_holds n L parties i (is_order p) l))

-- two properties that as many orders have
pub by_tally : (n L : ℕ) (parties : List (List ℕ)) (i : ℕ) (F G : List ℕ → Bool) → i < length parties →
    tally n (λ ks. F (names (numbers_from 0 n) ks)) ≡ tally n (λ ks. G (names (numbers_from 0 n) ks)) →
    count (8 * L) (λ mine. gives F (drawn n L (set parties i (bytes_of L mine)))) ≡ count (8 * L) (λ mine. gives G (drawn n L (set parties i (bytes_of L mine))))
by_tally n L parties i F G l e =
    uniform_draw_holds n L parties i first F l a
    ∙ ap (λ z. count (8 * L) (λ mine. is_order first (drawn n L (set parties i (bytes_of L mine)))) * z) e
    ∙ sym (uniform_draw_holds n L parties i first G l a)
  where
    first : List ℕ
    first = names (numbers_from 0 n) (zeros n)

    a : Arrangement n first
    a = names_arranged n (zeros n) (zeros_valid n)

pub fair_renamed_holds : (n L : ℕ) (parties : List (List ℕ)) (i : ℕ) (r : List ℕ) (G : List ℕ → Bool) → i < length parties → Arrangement n r →
    count (8 * L) (λ mine. gives G (drawn n L (set parties i (bytes_of L mine)))) ≡
    count (8 * L) (λ mine. gives (λ p. G (renamed r p)) (drawn n L (set parties i (bytes_of L mine))))
fair_renamed_holds n L parties i r G l a = by_tally n L parties i G (λ p. G (renamed r p)) l (tally_renamed n r G a)
