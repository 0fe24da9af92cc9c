-- How few rows are used up before there is an order. Assumes nothing.
use Rattle.std.specs.Prelude.{◌≡◌, ℕ, suc, ◌+◌, ◌*◌, ◌^◌, ◌<◌, ◌≤◌, List, length, slice_set}
use Rattle.counting.specs.Counting.{count, is_none, few}
use Rattle.counting.specs.Draws.{drawn}
use Rattle.counting.specs.Rows.{add_bits, bytes_of}
use Rattle.order.specs.Orders.{order}
use Rattle.uniform.specs.Bits.{Bits}
use Rattle.uniform.specs.Draws.{width}

-- for n names of width at most w and w times t bits, no larger part of the rows runs out than of the rows of t coins have fewer than n heads
abbrev pub SeldomOut : Type 0
SeldomOut =
    (n w t : ℕ) (others : List ℕ) → length others ≡ w * t → Bits others → width n ≤ w →
    count (w * t) (λ bs. is_none (order n (add_bits others bs))) * 2 ^ t ≤ few n t * 2 ^ (w * t)

-- the same for the rows of party i in the whole draw, where L bytes have w times t bits and maybe more
abbrev pub SeldomOutDraw : Type 0
SeldomOutDraw =
    (n L w t : ℕ) (parties : List (List ℕ)) (i : ℕ) → i < length parties → width n ≤ w → w * t ≤ 8 * L →
    count (8 * L) (λ mine. is_none (drawn n L (slice_set parties i (bytes_of L mine)))) * 2 ^ t ≤ few n t * 2 ^ (8 * L)

-- enough bytes for n names, by a comparison of numbers: m + d tries of w bits, of which more than m must do, and p and q weigh a try that does and
-- one that does not. Fewer than one in 2^s of the rows that party i can put in give no order
abbrev pub Enough : Type 0
Enough =
    (m d p q w s : ℕ) → p ≤ q → (p + q) ^ (m + d) * 2 ^ s < 2 ^ (m + d) * (p ^ m * q ^ d) →
    (n L : ℕ) (parties : List (List ℕ)) (i : ℕ) → i < length parties → n ≤ suc m → n ≤ 2 ^ w → w * (m + d) ≤ 8 * L →
    count (8 * L) (λ mine. is_none (drawn n L (slice_set parties i (bytes_of L mine)))) * 2 ^ s < 2 ^ (8 * L)

-- fewer than 1400 heads in 5957 coins come in less than one row of 2^1000
abbrev pub Few1400 : Type 0
Few1400 = few 1400 5957 * 2 ^ 1000 < 2 ^ 5957

-- at most 1400 names, and rows of at least 8192 bytes: of the 2^(8 * L) rows that party i can put in, fewer than one in 2^1000 give no order
abbrev pub Enough1400 : Type 0
Enough1400 =
    (n L : ℕ) (parties : List (List ℕ)) (i : ℕ) → i < length parties → n ≤ 1400 → 8192 ≤ L →
    count (8 * L) (λ mine. is_none (drawn n L (slice_set parties i (bytes_of L mine)))) * 2 ^ 1000 < 2 ^ (8 * L)
