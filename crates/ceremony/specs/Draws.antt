-- A draw in any of its phases, and one step of it. Assumes nothing.
use Rattle.std.specs.Prelude.{ℕ, cond, List, Some, None, Ok, Err, Option, Result, ◌==◌}
use Rattle.refusals.specs.declared.Refusal.{Refusal}
use Rattle.refusals.specs.declared.Refusal.TheVariants.{WrongTime}
use Rattle.ceremony.specs.declared.memory.ClosedList.{ClosedList}
use Rattle.ceremony.specs.declared.step.Draw.{Draw}
use Rattle.ceremony.specs.declared.step.Draw.TheVariants.{Listing, Sealing, Opening, Finished}
use Rattle.ceremony.specs.Model.{Held, Listed, Sealed, Ended, as_listed, as_sealed, as_opened, as_ended}
use Rattle.ceremony.specs.Steps.{entry_step, late_entry, list_close, seal_step, seals_close, opening_step, final_close}

-- the phases, in their order
pub data State : Type 0 where
  listing : Listed → State
  sealing : Sealed → State
  opening : Sealed → State
  ended : Ended → State

abbrev pub state : Draw → State
state (Listing s) = listing (as_listed s)
state (Sealing s) = sealing (as_sealed s)
state (Opening s) = opening (as_opened s)
state (Finished s) = ended (as_ended s)

-- the list, once it is closed
abbrev pub closed_list : State → Option ClosedList
closed_list (listing s) = None
closed_list (sealing s) = Some s.list
closed_list (opening s) = Some s.list
closed_list (ended s) = Some s.list

-- the state after a step, and why it was refused if it was
abbrev pub why : Result (Unit {0}) Refusal → Option Refusal
why (Ok u) = None
why (Err w) = Some w

abbrev pub stepped : {S : Type 0} → (S → State) → S × Result (Unit {0}) Refusal → State × Option Refusal
stepped phase (s, r) = (phase s, why r)

abbrev pub closed : {T : Type 0} → State → (T → State) → Result T Refusal → State × Option Refusal
closed s phase (Ok t) = (phase t, None)
closed s phase (Err w) = (s, Some w)

abbrev pub refused : State → Refusal → State × Option Refusal
refused s w = (s, Some w)

-- a step out of its time: an entry may have another fault first
abbrev pub out_of_time : Held → ℕ → ℕ → List ℕ → Refusal
out_of_time m count kind x = cond (kind == 1) (late_entry m count x) WrongTime

-- kinds: 1 entry, 2 close the list, 3 seal, 4 close the seals, 5 opening, 6 final close
abbrev pub step : State → ℕ → List ℕ → State × Option Refusal
step (listing s) kind x =
    cond (kind == 1) (stepped listing (entry_step s x))
    (cond (kind == 2) (closed (listing s) sealing (list_close s x)) (refused (listing s) WrongTime))
step (sealing s) kind x =
    cond (kind == 3) (stepped sealing (seal_step s x))
    (cond (kind == 4) (closed (sealing s) opening (seals_close s)) (refused (sealing s) (out_of_time s.held s.list.count kind x)))
step (opening s) kind x =
    cond (kind == 5) (stepped opening (opening_step s x))
    (cond (kind == 6) (closed (opening s) ended (final_close s)) (refused (opening s) (out_of_time s.held s.list.count kind x)))
step (ended s) kind x = refused (ended s) (out_of_time s.held s.list.count kind x)
