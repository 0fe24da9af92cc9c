-- Small draws. Assumes nothing.
use Rattle.std.specs.Prelude.{◌≡◌, ℕ, Bool, true, ◌&&◌, List, [], ◌∷◌, ◌==◌}
use Rattle.counting.specs.Counting.{count, is_order, is_none}
use Rattle.order.specs.Orders.{some, none, order_names}

-- of all rows of b bits, so many give each of these orders of n names, and so many give none
abbrev pub RowsFor : ℕ → ℕ → List (List ℕ) → ℕ → ℕ → Bool
RowsFor n b [] each without = count b (λ bs. is_none (order_names n bs)) == without
RowsFor n b (p ∷ ps) each without = count b (λ bs. is_order p (order_names n bs)) == each && RowsFor n b ps each without

-- names, bits, all orders of the names, rows for each order, rows without one; and two rows of five bits with three names: 3 is thrown away, then 1
-- is drawn, then 1 of the two left; and the bits run out
abbrev pub SmallDraws : Type 0
SmallDraws =
    (RowsFor 1 0 ((0 ∷ []) ∷ []) 1 0 ≡ true)
    × (RowsFor 2 3 ((0 ∷ 1 ∷ []) ∷ (1 ∷ 0 ∷ []) ∷ []) 4 0 ≡ true)
    × (RowsFor 3 5
    ((0 ∷ 1 ∷ 2 ∷ []) ∷ (0 ∷ 2 ∷ 1 ∷ []) ∷ (1 ∷ 0 ∷ 2 ∷ []) ∷ (1 ∷ 2 ∷ 0 ∷ []) ∷ (2 ∷ 0 ∷ 1 ∷ []) ∷ (2 ∷ 1 ∷ 0 ∷ []) ∷ [])
    5 2 ≡ true)
    × (order_names 3 (1 ∷ 1 ∷ 0 ∷ 1 ∷ 1 ∷ []) ≡ some (1 ∷ 2 ∷ 0 ∷ []))
    × (order_names 3 (1 ∷ 1 ∷ 1 ∷ 1 ∷ 0 ∷ []) ≡ none)
