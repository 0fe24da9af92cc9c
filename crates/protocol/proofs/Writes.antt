-- What is written, one part after another. Assumes nothing.
use Rattle.std.proofs.Common.{◌≡◌, ℕ, List, [], ◌∷◌, ◌++◌, sym, ap, ◌∙◌}
use Rattle.std.specs.List.{flat_map}
use Rattle.std.proofs.lemmas.List.{flat_map_more}

-- one more of several
pub joined_on : {X : Type 0} (f : X → List ℕ) (out was after : List ℕ) (xs more : List X) (x : X)
    → was ≡ out ++ flat_map f xs → after ≡ was ++ f x → more ≡ xs ++ x ∷ [] → after ≡ out ++ flat_map f more
joined_on f out was after xs more x h e m =
    e ∙ (ap (λ (z : List ℕ). z ++ f x) h ∙ (flat_map_more f out xs x ∙ ap (λ (z : List _). out ++ flat_map f z) (sym m)))
