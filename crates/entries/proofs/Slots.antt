-- A part that would pass the end. Assumes nothing.
use Rattle.std.proofs.lemmas.Grind.{common_steps}
use native.Mathlib.Omega.{arith}
use Rattle.std.proofs.Common.{◌≡◌, ℕ, min, List, length, take}

-- a part that would pass the end is the part up to the end
pub take_cut : {X : Type 0} (n m : ℕ) (xs : List X) → m ≡ min n (length xs) → take n xs ≡ take m xs
take_cut n m xs e = grind (arith, common_steps)
