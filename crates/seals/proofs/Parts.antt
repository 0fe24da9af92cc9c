-- A part that is read as far as the slice goes. Assumes nothing.
use Rattle.std.proofs.lemmas.Grind.{common_steps}
use Rattle.std.proofs.Common.{◌≡◌, ℕ, ◌+◌, ◌-◌, min, List, length, take, drop, arith}

pub part_within : (xs : List ℕ) (at n from end : ℕ) → from ≡ min at (length xs) → end ≡ min (at + n) (length xs) → take (end - from) (drop from xs) ≡ take n (drop at xs)
part_within xs at n from end f e = grind (arith, common_steps)
