-- What a list of a first element and a rest has. Assumes nothing.
use Rattle.std.proofs.Common.{◌≡◌, ℕ, zero, suc, ◌<◌, ◌⊎◌, List, [], ◌∷◌, length, get_or, refl, inl, inr, arith}
use Rattle.std.specs.List.{ContainsAt as Has}

module _ {X : Type 0} where
  pub has_none : (z : X) → Has [] z → ⊥
  has_none z h = omega (arith, h.1)

  pub has_head : (x : X) (xs : List X) → Has (x ∷ xs) x
  has_head x xs = (0, omega arith, λ _. refl)

  pub has_tail : (x : X) (xs : List X) (z : X) → Has xs z → Has (x ∷ xs) z
  has_tail x xs z h = (suc h.0, omega (arith, h.1), h.2)

  pub has_cases : (x : X) (xs : List X) (z : X) → Has (x ∷ xs) z → (x ≡ z) ⊎ Has xs z
  has_cases x xs z h = go h.0 h.1 h.2
    where
      go : (k : ℕ) → k < length (x ∷ xs) → ((d : X) → get_or (x ∷ xs) k d ≡ z) → (x ≡ z) ⊎ Has xs z
      go zero l e = inl (e x)
      go (suc k) l e = inr (k, omega arith, e)
