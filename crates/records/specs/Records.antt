-- What the parties' records tell of the openings. Assumes nothing.
use Rattle.std.specs.Prelude.{ℕ, zero, suc, cond, List, [], ◌∷◌, ◌++◌, drop}
use Rattle.seals.specs.Records.{has_opened, opening_in}

-- the bits of the first n parties that have opened, in the order of the parties
abbrev pub row_of : List ℕ → ℕ → ℕ → List (List ℕ)
row_of seals len k = cond (has_opened seals len k) (drop 32 (opening_in seals len k) ∷ []) []

unfoldable pub opened_rows : List ℕ → ℕ → ℕ → List (List ℕ)
opened_rows seals len zero = []
opened_rows seals len (suc n) = opened_rows seals len n ++ row_of seals len n
