-- Steps that are all taken, one after another. Assumes nothing.
use Rattle.std.proofs.Common.{◌≡◌, ℕ, ◌+◌, List, [], ◌∷◌, ◌++◌, None, Option, sym, refl, ap, ◌∙◌, subst}
use Rattle.refusals.specs.declared.Refusal.{Refusal}
use Rattle.ceremony.specs.Model.{Sealed}
use Rattle.ceremony.specs.Draws.{State, step}
use Rattle.runs.specs.Runs.{after_steps, refused_at, refusals_in}

-- from a state these steps are all taken, and lead to another
abbrev pub Leads : State → List (ℕ × List ℕ) → State → Type 0
Leads s [] t = s ≡ t
Leads s (x ∷ xs) t = ((step s x.0 x.1).1 ≡ None) × Leads (step s x.0 x.1).0 xs t

pub more : (s t u : State) (kind : ℕ) (x : List ℕ) (xs : List (ℕ × List ℕ)) → (step s kind x).0 ≡ t → (step s kind x).1 ≡ None → Leads t xs u → Leads s ((kind, x) ∷ xs) u
more s t u kind x xs a b c = (b, subst (λ (q : State). Leads q xs u) (sym a) c)

pub joined : (s t u : State) (xs ys : List (ℕ × List ℕ)) → Leads s xs t → Leads t ys u → Leads s (xs ++ ys) u
joined s t u [] ys a b = subst (λ (q : State). Leads q ys u) (sym a) b
joined s t u (x ∷ xs) ys a b = (a.0, joined (step s x.0 x.1).0 t u xs ys a.1 b)

pub leads_to : (s t : State) (xs : List (ℕ × List ℕ)) → Leads s xs t → after_steps s xs ≡ t
unfolding after_steps
leads_to s t [] a = a
leads_to s t (x ∷ xs) a = leads_to (step s x.0 x.1).0 t xs a.1

pub none_refused : (s t : State) (xs : List (ℕ × List ℕ)) (n : ℕ) → Leads s xs t → refusals_in s n xs ≡ []
unfolding refusals_in
none_refused s t [] n a = refl
none_refused s t (x ∷ xs) n a =
    ap (λ (r : Option Refusal). refused_at n r (refusals_in (step s x.0 x.1).0 (n + 1) xs)) a.0 ∙ none_refused (step s x.0 x.1).0 t xs (n + 1) a.1

-- the list of a state is that of another
abbrev pub SameList : Sealed → Sealed → Type 0
SameList t s = (t.list ≡ s.list) × (t.held.slots ≡ s.held.slots) × (t.held.index ≡ s.held.index)
