-- What the drawing of an order promises, for rows of bits. Assumes nothing.
use Rattle.std.specs.Prelude.{◌≡◌, ℕ, ◌*◌, ◌<◌, ◌≤◌, Bool, List, ◌++◌, length}
use Rattle.counting.specs.Counting.{count, is_order, gives, tally}
use Rattle.counting.specs.Rows.{add_bits, Below}
use Rattle.order.specs.Orders.{some, order, Valid, names, numbers_from, order_names, times}
use Rattle.uniform.specs.Bits.{Bits}

-- an arrangement of n names: n numbers, each below n, none twice
unfoldable pub Arrangement : ℕ → List ℕ → Type 0
Arrangement n p = (length p ≡ n) × Below n p × ((x : ℕ) → times x p ≤ 1)

-- what is found is an order
abbrev pub IsOrder : Type 0
IsOrder = (n : ℕ) (bs ks : List ℕ) → order n bs ≡ some ks → Valid n ks

-- more bits don't change an order that was found
abbrev pub Kept : Type 0
Kept = (n : ℕ) (bs cs ks : List ℕ) → order n bs ≡ some ks → order n (bs ++ cs) ≡ some ks

-- an order holds each name once
abbrev pub EachOnce : Type 0
EachOnce = (n : ℕ) (bs p : List ℕ) → order_names n bs ≡ some p → (length p ≡ n) × ((x : ℕ) → x < n → times x p ≡ 1)

-- so what is found is an arrangement of the names
abbrev pub IsArrangement : Type 0
IsArrangement = (n : ℕ) (bs p : List ℕ) → order_names n bs ≡ some p → Arrangement n p

-- and each arrangement is that of one row of drawn numbers, and of no other
abbrev pub OneRow : Type 0
OneRow =
    (n : ℕ) (p : List ℕ) → Arrangement n p →
    (ks : List ℕ) × Valid n ks × (names (numbers_from 0 n) ks ≡ p) × ((ls : List ℕ) → Valid n ls → names (numbers_from 0 n) ls ≡ p → ls ≡ ks)

-- fix all that the others put in, as they like: of all the rows of bits that one party can put in, as many lead to any one order as to any other
abbrev pub Fair : Type 0
Fair =
    (n b : ℕ) (others : List ℕ) (ks ls : List ℕ) → length others ≡ b → Bits others → Valid n ks → Valid n ls →
    count b (λ mine. is_order ks (order n (add_bits others mine))) ≡ count b (λ mine. is_order ls (order n (add_bits others mine)))

-- the same for arrangements of the names
abbrev pub FairPermutation : Type 0
FairPermutation =
    (n b : ℕ) (others p q : List ℕ) → length others ≡ b → Bits others → Arrangement n p → Arrangement n q →
    count b (λ mine. is_order p (order_names n (add_bits others mine))) ≡ count b (λ mine. is_order q (order_names n (add_bits others mine)))

-- stronger: the rows with any property of the order are those of any one order, times the orders with that property
abbrev pub Uniform : Type 0
Uniform =
    (n b : ℕ) (others : List ℕ) (ks : List ℕ) (G : List ℕ → Bool) → length others ≡ b → Bits others → Valid n ks →
    count b (λ mine. gives G (order n (add_bits others mine))) ≡ count b (λ mine. is_order ks (order n (add_bits others mine))) * tally n G
