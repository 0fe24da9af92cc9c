-- Phases come in their order, and seals and openings are taken each in its own. Assumes nothing.
use Rattle.std.proofs.Common.{◌≡◌, ℕ, zero, suc, ◌<◌, ◌≤◌, List, [], ◌∷◌, length, get_or, Some, None, Option, refl, subst, arith}
use Rattle.refusals.specs.declared.Refusal.{Refusal}
use Rattle.ceremony.specs.Draws.{State, listing, sealing, opening, ended, step}
use Rattle.step_file.specs.File.{file_steps}
use Rattle.runs.specs.Reports.{fresh}
use Rattle.laws.specs.Taken.{if_taken, taken_kinds}
use Rattle.laws.specs.Laws.{SealedFirst}
use Rattle.laws.proofs.Turns.{each_step}

-- the phases by number
abbrev pub phase : State → ℕ
phase (listing s) = 0
phase (sealing s) = 1
phase (opening s) = 2
phase (ended s) = 3

-- a step goes to no earlier phase
pub onward : (s : State) (kind : ℕ) (x : List ℕ) → phase s ≤ phase (step s kind x).0
onward s kind x =
    each_step x (λ s r. phase s ≤ phase r.0)
    (record {
      refused = λ s why. omega arith;
      entry = λ s. omega arith;
      list_closed = λ s t e. omega arith;
      seal = λ s. omega arith;
      seals_closed = λ s t e. omega arith;
      opens = λ s. omega arith;
      ends = λ s e h. omega arith;
    }) s kind

-- a seal is taken in the second phase alone, and an opening in the third
at_three : (s : State) (x : List ℕ) → (step s 3 x).1 ≡ None → phase s ≡ 1
at_three (listing s) x h = absurd cc
at_three (sealing s) x h = refl
at_three (opening s) x h = absurd cc
at_three (ended s) x h = absurd cc

at_five : (s : State) (x : List ℕ) → (step s 5 x).1 ≡ None → phase s ≡ 2
at_five (listing s) x h = absurd cc
at_five (sealing s) x h = absurd cc
at_five (opening s) x h = refl
at_five (ended s) x h = absurd cc

pub seal_time : (s : State) (kind : ℕ) (x : List ℕ) → kind ≡ 3 → (step s kind x).1 ≡ None → phase s ≡ 1
seal_time s kind x e h = at_three s x (subst (λ (k : ℕ). (step s k x).1 ≡ None) e h)

pub opening_time : (s : State) (kind : ℕ) (x : List ℕ) → kind ≡ 5 → (step s kind x).1 ≡ None → phase s ≡ 2
opening_time s kind x e h = at_five s x (subst (λ (k : ℕ). (step s k x).1 ≡ None) e h)

-- from the third phase on no seal is taken
abbrev NoSeal : List ℕ → Type 0
NoSeal ks = (j : ℕ) → j < length ks → get_or ks j 0 ≡ 3 → ⊥

no_more_seals : (s : State) (xs : List (ℕ × List ℕ)) → 2 ≤ phase s → NoSeal (taken_kinds s xs)
unfolding taken_kinds
no_more_seals s [] h = λ j l e. absurd (omega arith)
no_more_seals s (x ∷ xs) h =
    go (step s x.0 x.1).1 refl (no_more_seals (step s x.0 x.1).0 xs (let u = onward s x.0 x.1 in omega arith))
  where
    go : (r : Option Refusal) → (step s x.0 x.1).1 ≡ r → NoSeal (taken_kinds (step s x.0 x.1).0 xs) → NoSeal (if_taken x.0 r (taken_kinds (step s x.0 x.1).0 xs))
    go None e ih zero l k = absurd (let p = seal_time s x.0 x.1 k e in omega arith)
    go None e ih (suc j) l k = ih j (omega arith) k
    go (Some w) e ih j l k = ih j l k

abbrev InOrder : List ℕ → Type 0
InOrder ks = (i j : ℕ) → i < j → j < length ks → get_or ks i 0 ≡ 5 → get_or ks j 0 ≡ 3 → ⊥

pub in_order : (s : State) (xs : List (ℕ × List ℕ)) → InOrder (taken_kinds s xs)
unfolding taken_kinds
in_order s [] = λ i j l m a b. absurd (omega arith)
in_order s (x ∷ xs) = go (step s x.0 x.1).1 refl (in_order (step s x.0 x.1).0 xs)
  where
    go : (r : Option Refusal) → (step s x.0 x.1).1 ≡ r → InOrder (taken_kinds (step s x.0 x.1).0 xs) → InOrder (if_taken x.0 r (taken_kinds (step s x.0 x.1).0 xs))
    go None e ih i zero l m a b = absurd (omega arith)
    go None e ih zero (suc j) l m a b =
        no_more_seals (step s x.0 x.1).0 xs (let p = opening_time s x.0 x.1 a e in let u = onward s x.0 x.1 in omega arith) j (omega arith) b
    go None e ih (suc i) (suc j) l m a b = ih i j (omega arith) (omega arith) a b
    go (Some w) e ih i j l m a b = ih i j l m a b

pub sealed_first : SealedFirst
sealed_first file i j l m a b = in_order fresh (file_steps file) i j l m a b
