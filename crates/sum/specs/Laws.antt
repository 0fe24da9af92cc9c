-- What a sum promises. Each is a statement, whose proof a contract asks for. Assumes nothing.
use Rattle.std.specs.Prelude.{◌≡◌, ℕ, List, [], ◌∷◌, ◌++◌}
use Rattle.std.specs.List.Sorted.{IsPermutation}
use Rattle.sum.specs.Sums.{sum_of}

-- whichever rows were summed before, now they and one more row are
abbrev pub OneMore : List ℕ → List ℕ → List ℕ → Type 0
OneMore before row after = (L : ℕ) (rows : List (List ℕ)) → before ≡ sum_of L rows → after ≡ sum_of L (rows ++ (row ∷ []))

-- the same rows in another order have the same sum
abbrev pub AnyOrder : Type 0
AnyOrder = (L : ℕ) (rows again : List (List ℕ)) → IsPermutation rows again → sum_of L again ≡ sum_of L rows
