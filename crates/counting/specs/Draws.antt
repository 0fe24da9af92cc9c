-- What the whole draw promises: from the bytes that the parties put in to the names in order. Assumes nothing.
use Rattle.std.specs.Prelude.{◌≡◌, ℕ, ◌+◌, ◌*◌, ◌^◌, ◌<◌, Bool, List, [], ◌∷◌, length, slice_index, slice_set}
use Rattle.counting.specs.Counting.{count, is_order, is_none, gives, tally, fact}
use Rattle.counting.specs.Orders.{Arrangement}
use Rattle.counting.specs.Rows.{bytes_of}
use Rattle.order.specs.Drawings.{told, bits_read, drawn_order}
use Rattle.order.specs.Orders.{Order, names, numbers_from, order_names}
use Rattle.sum.specs.Sums.{sum_of}
use Rattle.uniform.specs.Bits.{bits}

-- what is drawn for n names from the rows of bytes that the parties put in, of which the sum has L
unfoldable pub drawn : ℕ → ℕ → List (List ℕ) → Order
drawn n L parties = order_names n (bits (sum_of L parties))

-- it is what the code draws from the sum, from the first bit on
abbrev pub IsDrawn : Type 0
IsDrawn = (n L : ℕ) (parties : List (List ℕ)) → L < 2 ^ 61 → drawn_order n (sum_of L parties) 0 ≡ told (drawn n L parties) (bits_read n (bits (sum_of L parties)))

-- THE MAIN PROMISE: fix what the others put in, as they like. Of all the rows of bits that party i can put in, as many lead to any one arrangement
-- of the names as to any other
abbrev pub FairDraw : Type 0
FairDraw =
    (n L : ℕ) (parties : List (List ℕ)) (i : ℕ) (p q : List ℕ) → i < length parties → Arrangement n p → Arrangement n q →
    count (8 * L) (λ mine. is_order p (drawn n L (slice_set parties i (bytes_of L mine)))) ≡
    count (8 * L) (λ mine. is_order q (drawn n L (slice_set parties i (bytes_of L mine))))

-- whatever the others put in: each outcome comes from as many rows of party i as if the names were drawn from that row alone
abbrev pub Alone : Type 0
Alone =
    (n L : ℕ) (parties : List (List ℕ)) (i : ℕ) (F : Order → Bool) → i < length parties →
    count (8 * L) (λ mine. F (drawn n L (slice_set parties i (bytes_of L mine)))) ≡ count (8 * L) (λ mine. F (order_names n mine))

-- the rows with any property of the arrangement are those of any one arrangement, times the orders with that property
abbrev pub UniformDraw : Type 0
UniformDraw =
    (n L : ℕ) (parties : List (List ℕ)) (i : ℕ) (p : List ℕ) (G : List ℕ → Bool) → i < length parties → Arrangement n p →
    count (8 * L) (λ mine. gives G (drawn n L (slice_set parties i (bytes_of L mine)))) ≡
    count (8 * L) (λ mine. is_order p (drawn n L (slice_set parties i (bytes_of L mine)))) * tally n (λ ks. G (names (numbers_from 0 n) ks))

-- the rows of party i fall into equal shares, one for each of the n! arrangements, and those with no order
abbrev pub Shares : Type 0
Shares =
    (n L : ℕ) (parties : List (List ℕ)) (i : ℕ) (p : List ℕ) → i < length parties → Arrangement n p →
    fact n * count (8 * L) (λ mine. is_order p (drawn n L (slice_set parties i (bytes_of L mine)))) +
    count (8 * L) (λ mine. is_none (drawn n L (slice_set parties i (bytes_of L mine)))) ≡ 2 ^ (8 * L)

-- each name replaced by the one at its number in r
unfoldable pub renamed : List ℕ → List ℕ → List ℕ
renamed r [] = []
renamed r (x ∷ p) = slice_index r x ∷ renamed r p

-- no name is favoured: rename the names by any arrangement r. As many rows of party i lead to an arrangement with a property as to one that has it
-- after renaming
abbrev pub FairRenamed : Type 0
FairRenamed =
    (n L : ℕ) (parties : List (List ℕ)) (i : ℕ) (r : List ℕ) (G : List ℕ → Bool) → i < length parties → Arrangement n r →
    count (8 * L) (λ mine. gives G (drawn n L (slice_set parties i (bytes_of L mine)))) ≡
    count (8 * L) (λ mine. gives (λ p. G (renamed r p)) (drawn n L (slice_set parties i (bytes_of L mine))))
