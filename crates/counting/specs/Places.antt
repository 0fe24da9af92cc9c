-- Who gets a place in the order, and who gets two. Assumes nothing.
use Rattle.std.specs.Prelude.{◌≡◌, ℕ, ◌*◌, ◌<◌, Bool, ◌&&◌, List, length, ◌==◌, ◌≢◌, nat_eq, slice_index, slice_set}
use Rattle.counting.specs.Counting.{count, gives}
use Rattle.counting.specs.Draws.{drawn}
use Rattle.counting.specs.Rows.{add_bits, bytes_of}
use Rattle.order.specs.Orders.{order, names, numbers_from}
use Rattle.uniform.specs.Bits.{Bits}

-- name x is at place p of the order that a row of drawn numbers is
unfoldable pub at_place : ℕ → ℕ → ℕ → List ℕ → Bool
at_place n p x ks = slice_index (names (numbers_from 0 n) ks) p == x

-- a given place: as many rows give it to one name as to any other
abbrev pub FairPlace : Type 0
FairPlace =
    (n b : ℕ) (others : List ℕ) (p x y : ℕ) → length others ≡ b → Bits others → p < n → x < n → y < n →
    count b (λ mine. gives (at_place n p x) (order n (add_bits others mine))) ≡ count b (λ mine. gives (at_place n p y) (order n (add_bits others mine)))

-- two places: as many rows give them to two different names as to any other two
abbrev pub FairPlaces : Type 0
FairPlaces =
    (n b : ℕ) (others : List ℕ) (p q x x' y y' : ℕ) → length others ≡ b → Bits others → p < n → q < n → (p ≢ q) →
    x < n → x' < n → (x ≢ x') → y < n → y' < n → (y ≢ y') →
    count b (λ mine. gives (λ ks. at_place n p x ks && at_place n q x' ks) (order n (add_bits others mine))) ≡
    count b (λ mine. gives (λ ks. at_place n p y ks && at_place n q y' ks) (order n (add_bits others mine)))

-- the same for the whole draw: as many rows of party i give a place to one name as to any other
abbrev pub FairPlaceDraw : Type 0
FairPlaceDraw =
    (n L : ℕ) (parties : List (List ℕ)) (i : ℕ) (k x y : ℕ) → i < length parties → k < n → x < n → y < n →
    count (8 * L) (λ mine. gives (λ p. nat_eq (slice_index p k) x) (drawn n L (slice_set parties i (bytes_of L mine)))) ≡
    count (8 * L) (λ mine. gives (λ p. nat_eq (slice_index p k) y) (drawn n L (slice_set parties i (bytes_of L mine))))

-- and as many give two places to two different names as to any other two
abbrev pub FairPlacesDraw : Type 0
FairPlacesDraw =
    (n L : ℕ) (parties : List (List ℕ)) (i : ℕ) (k l x x' y y' : ℕ) → i < length parties → k < n → l < n → (k ≢ l) →
    x < n → x' < n → (x ≢ x') → y < n → y' < n → (y ≢ y') →
    count (8 * L) (λ mine. gives (λ p. (slice_index p k == x) && slice_index p l == x') (drawn n L (slice_set parties i (bytes_of L mine)))) ≡
    count (8 * L) (λ mine. gives (λ p. (slice_index p k == y) && slice_index p l == y') (drawn n L (slice_set parties i (bytes_of L mine))))
