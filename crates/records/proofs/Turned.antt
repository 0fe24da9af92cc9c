-- A sum of rows with one row more, and with two in either order. Assumes nothing.
use Rattle.std.proofs.Common.{◌≡◌, ℕ, List, [], ◌∷◌, ◌++◌, sym, refl, ap, ◌∙◌, append_assoc}
use Rattle.std.specs.List.Sorted.{IsPermutation}
use Rattle.std.proofs.lemmas.List.Sorted.{IsPermutation-append_right, IsPermutation-append_comm}
use Rattle.sum.specs.Sums.{xor_bytes, sum_of}
use Rattle.sum.proofs.Sums.{any_order_holds, one_more_holds}

pub sum_push : (L : ℕ) (rows : List (List ℕ)) (row : List ℕ) → sum_of L (rows ++ row ∷ []) ≡ xor_bytes (sum_of L rows) row
sum_push L rows row = sym (one_more_holds (sum_of L rows) row (xor_bytes (sum_of L rows) row) refl L rows refl)

pub shuffled_last_two : {X : Type 0} (xs : List X) (a b : X) → IsPermutation ((xs ++ a ∷ []) ++ b ∷ []) ((xs ++ b ∷ []) ++ a ∷ [])
shuffled_last_two {X} xs a b =
    let two : IsPermutation (a ∷ b ∷ []) (b ∷ a ∷ []) = IsPermutation-append_comm (a ∷ []) (b ∷ []) in
    simp append_assoc (IsPermutation-append_right xs (a ∷ b ∷ []) (b ∷ a ∷ []) two)

pub sum_turn : (L : ℕ) (rows : List (List ℕ)) (a b : List ℕ) → xor_bytes (xor_bytes (sum_of L rows) a) b ≡ xor_bytes (xor_bytes (sum_of L rows) b) a
sum_turn L rows a b = sym (twice a b) ∙ (any_order_holds L _ _ (shuffled_last_two rows b a) ∙ twice b a)
  where
    twice : (y z : List ℕ) → sum_of L ((rows ++ y ∷ []) ++ z ∷ []) ≡ xor_bytes (xor_bytes (sum_of L rows) y) z
    twice y z = sum_push L (rows ++ y ∷ []) z ∙ ap (λ (s : List ℕ). xor_bytes s z) (sum_push L rows y)
