-- A refused step changes nothing. Assumes nothing.
use Rattle.std.proofs.Common.{◌≡◌, Some, None, Option, refl}
use Rattle.refusals.specs.declared.Refusal.{Refusal}
use Rattle.ceremony.specs.Draws.{State, listing, sealing, opening, stepped}
use Rattle.laws.specs.Laws.{RefusedUnchanged}
use Rattle.laws.proofs.Turns.{each_step, entry_cases, seal_cases, opening_cases}

-- what is told of a state and an answer: where the answer refuses, the state is this one
abbrev Stays : State → State × Option Refusal → Type 0
Stays s r = (w : Refusal) → r.1 ≡ Some w → r.0 ≡ s

never : (s t : State) → Stays s (t, None)
never s t w h = absurd cc

pub refused_unchanged : RefusedUnchanged
refused_unchanged s kind x =
    each_step x Stays
    (record {
      refused = λ s why v e. refl;
      entry = λ s. entry_cases s x (λ r. Stays (listing s) (stepped listing r)) (λ why v e. refl) (λ at slot. never (listing s) _);
      list_closed = λ s t e. never (listing s) (sealing t);
      seal = λ s. seal_cases s x (λ r. Stays (sealing s) (stepped sealing r)) (λ why v e. refl) (λ at. never (sealing s) _);
      seals_closed = λ s t e. never (sealing s) (opening t);
      opens = λ s. opening_cases s x (λ r. Stays (opening s) (stepped opening r)) (λ why v e. refl) (λ at. never (opening s) _);
      ends = λ s e h. never (opening s) _;
    }) s kind
