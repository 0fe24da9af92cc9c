-- The rows of one party fall into equal shares. Assumes nothing.
use Rattle.std.proofs.Common.{◌≡◌, ℕ, zero, suc, ◌+◌, ◌*◌, ◌^◌, ◌<◌, Bool, true, cond, List, [], ◌∷◌, length, set, sym, refl, ap, ◌∙◌, ap₂, mul_comm, mul-one, arith}
use native.Mathlib.Nat.{pow-succ'}
use Rattle.counting.proofs.Draws.{alone_holds, spread}
use Rattle.counting.proofs.Places.{tally_const}
use Rattle.counting.specs.Counting.{count, fact, is_order, is_none, gives}
use Rattle.counting.specs.Draws.{drawn}
use Rattle.counting.specs.Orders.{Arrangement}
use Rattle.counting.specs.Rows.{bytes_of}
use Rattle.order.specs.Orders.{Order, some, none, order_names}

-- the shares
one_of : (b : ℕ) (f g : List ℕ → Bool) → ((bs : List ℕ) → cond (f bs) 1 0 + cond (g bs) 1 0 ≡ 1) → count b f + count b g ≡ 2 ^ b
unfolding count
one_of zero f g h = h []
one_of (suc b) f g h =
    simp pow-succ'
    (omega (arith, one_of b (λ bs. f (0 ∷ bs)) (λ bs. g (0 ∷ bs)) (λ bs. h (0 ∷ bs)), one_of b (λ bs. f (1 ∷ bs)) (λ bs. g (1 ∷ bs)) (λ bs. h (1 ∷ bs))))

some_or_none : (o : Order) → cond (gives (λ ks. true) o) 1 0 + cond (is_none o) 1 0 ≡ 1
unfolding gives is_none
some_or_none (some ks) = refl
some_or_none none = refl

share : (n b : ℕ) (p : List ℕ) → Arrangement n p → fact n * count b (λ r. is_order p (order_names n r)) + count b (λ r. is_none (order_names n r)) ≡ 2 ^ b
share n b p a =
    ap (λ z. z + count b (λ r. is_none (order_names n r))) (mul_comm (fact n) (count b (λ r. is_order p (order_names n r))) ∙ sym all)
    ∙ one_of b (λ r. gives (λ q. true) (order_names n r)) (λ r. is_none (order_names n r)) (λ r. some_or_none (order_names n r))
  where
    all : count b (λ r. gives (λ q. true) (order_names n r)) ≡ count b (λ r. is_order p (order_names n r)) * fact n
    all = spread n b p (λ q. true) a ∙ ap (λ z. count b (λ r. is_order p (order_names n r)) * z) (tally_const n true ∙ mul-one (fact n))

pub shares_holds : (n L : ℕ) (parties : List (List ℕ)) (i : ℕ) (p : List ℕ) → i < length parties → Arrangement n p →
    fact n * count (8 * L) (λ mine. is_order p (drawn n L (set parties i (bytes_of L mine)))) +
    count (8 * L) (λ mine. is_none (drawn n L (set parties i (bytes_of L mine)))) ≡ 2 ^ (8 * L)
shares_holds n L parties i p l a =
    ap₂ (λ x y. fact n * x + y) (alone_holds n L parties i (is_order p) l) (alone_holds n L parties i is_none l) ∙ share n (8 * L) p a
