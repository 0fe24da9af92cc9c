-- The first fault of several. Assumes nothing.
use Rattle.std.proofs.Common.{◌≡◌, ℕ, zero, suc, ◌+◌, ◌-◌, ◌<◌, Some, None, Ok, Err, Option, sym, refl, ap, ◌∙◌, suc-add, zero-add, add-one, arith}
use Rattle.refusals.specs.declared.Refusal.{Refusal}
use Rattle.protocol.specs.Check.{or_else, first_of, refused_with}

-- what passed has no fault
passed_none : (why : ℕ → Refusal) (o : Option ℕ) → Ok tt ≡ refused_with why o → o ≡ None
passed_none why None e = refl
passed_none why (Some at) e = cc

module _ (f : ℕ → Option ℕ) where
  pub first_none : first_of f 0 ≡ None
  unfolding first_of
  first_none = refl

  -- none among k, and none at k
  pub first_more : (k : ℕ) → first_of f k ≡ None → f k ≡ None → first_of f (k + 1) ≡ None
  unfolding first_of
  first_more k h e = rw (add-one k) (ap (λ (o : Option ℕ). or_else o (f k)) h ∙ e)

  first_stays : (k d x : ℕ) → first_of f k ≡ Some x → first_of f (d + k) ≡ Some x
  unfolding first_of
  first_stays k zero x e = simp (zero-add) e
  first_stays k (suc d) x e = simp (suc-add) (ap (λ (o : Option ℕ). or_else o (f (d + k))) (first_stays k d x e))

  -- none among k, and one at k
  pub first_found : (k n x : ℕ) → k < n → first_of f k ≡ None → f k ≡ Some x → first_of f n ≡ Some x
  unfolding first_of
  first_found k n x l h e =
      let here : first_of f (suc k) ≡ Some x = ap (λ (o : Option ℕ). or_else o (f k)) h ∙ e in
      let d : ℕ = n - suc k in
      let s : d + suc k ≡ n = omega arith in
      ap (first_of f) (sym s) ∙ first_stays (suc k) d x here

  -- the same, as the refusal that is answered
  module _ (why : ℕ → Refusal) where
    pub refused_first : (k n : ℕ) (e : Refusal) → k < n → first_of f k ≡ None → Err e ≡ refused_with why (f k) → Err e ≡ refused_with why (first_of f n)
    refused_first k n e l h q = go (f k) refl q
      where
        go : (o : Option ℕ) → o ≡ f k → Err e ≡ refused_with why o → Err e ≡ refused_with why (first_of f n)
        go None z w = cc
        go (Some x) z w = w ∙ ap (refused_with why) (sym (first_found k n x l h (sym z)))

    pub passed_on : (k : ℕ) → first_of f k ≡ None → Ok tt ≡ refused_with why (f k) → first_of f (k + 1) ≡ None
    passed_on k h q = first_more k h (passed_none why (f k) q)
