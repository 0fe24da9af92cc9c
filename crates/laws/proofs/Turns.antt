-- A step of a draw by the ways in which it can end. Assumes nothing.
use Rattle.std.proofs.Common.{◌≡◌, ℕ, cond, eqb, List, length, get_or, drop, Some, None, Ok, Err, Option, Result, refl}
use Rattle.std.proofs.lemmas.Bool.{cond_both}
use Rattle.refusals.specs.declared.Refusal.{Refusal}
use Rattle.refusals.specs.declared.Refusal.TheVariants.{OpeningLength}
use Rattle.entries.specs.Place.{place_for}
use Rattle.entries.specs.Entry.{slot_for, entered_at, entered_into}
use Rattle.seals.specs.Steps.{seal_fault, sealed_at, opening_fault, opened_at}
use Rattle.ceremony.specs.Model.{Listed, Sealed, Ended}
use Rattle.ceremony.specs.Steps.{listed_by, entry_step, list_close, sealed_by, seal_step, seals_close, opened_by, opening_step, final_close}
use Rattle.ceremony.specs.Draws.{State, listing, sealing, opening, ended, stepped, closed, step}

-- a fact of a state and of what a step with these bytes comes to, shown for each way in which the step can end
pub record Turns (x : List ℕ) (P : State → State × Option Refusal → Type 0) : Type 0 where
  pub refused : (s : State) (why : Refusal) → P s (s, Some why)
  pub entry : (s : Listed) → P (listing s) (stepped listing (entry_step s x))
  pub list_closed : (s : Listed) (t : Sealed) → list_close s x ≡ Ok t → P (listing s) (sealing t, None)
  pub seal : (s : Sealed) → P (sealing s) (stepped sealing (seal_step s x))
  pub seals_closed : (s t : Sealed) → seals_close s ≡ Ok t → P (sealing s) (opening t, None)
  pub opens : (s : Sealed) → P (opening s) (stepped opening (opening_step s x))
  pub ends : (s : Sealed) (e : Ended) → final_close s ≡ Ok e → P (opening s) (ended e, None)

module _ (x : List ℕ) (P : State → State × Option Refusal → Type 0) (t : Turns x P) where
  by_kind : (s : State) (kind a b : ℕ) (p q r : State × Option Refusal) → P s p → P s q → P s r → P s (cond (eqb kind a) p (cond (eqb kind b) q r))
  by_kind s kind a b p q r f g h = cond_both (eqb kind a) p _ (P s) (λ e. f) (λ e. cond_both (eqb kind b) q r (P s) (λ e. g) (λ e. h))

  closing : {T : Type 0} (s : State) (next : T → State) (r : Result T Refusal) → ((u : T) → r ≡ Ok u → P s (next u, None)) → P s (closed s next r)
  closing s next (Ok u) f = f u refl
  closing s next (Err why) f = t.refused s why

  pub each_step : (s : State) (kind : ℕ) → P s (step s kind x)
  each_step (listing s) kind = by_kind (listing s) kind 1 2 _ _ _ (t.entry s) (closing (listing s) sealing (list_close s x) (t.list_closed s)) (t.refused (listing s) _)
  each_step (sealing s) kind = by_kind (sealing s) kind 3 4 _ _ _ (t.seal s) (closing (sealing s) opening (seals_close s) (t.seals_closed s)) (t.refused (sealing s) _)
  each_step (opening s) kind = by_kind (opening s) kind 5 6 _ _ _ (t.opens s) (closing (opening s) ended (final_close s) (t.ends s)) (t.refused (opening s) _)
  each_step (ended e) kind = t.refused (ended e) _

-- an entry, a seal and an opening: refused, or taken at a place in memory
pub entry_cases : (s : Listed) (x : List ℕ) (P : Listed × Result (Unit {0}) Refusal → Type 0) → ((why : Refusal) → P (s, Err why))
    → ((at slot : ℕ) → P (listed_by s (entered_into s.held.slots s.held.index s.count x at (Some slot)))) → P (entry_step s x)
entry_cases s x P f g = go (place_for s.held.slots s.held.index s.count x)
  where
    into : (at : ℕ) (r : Option ℕ) → P (listed_by s (entered_into s.held.slots s.held.index s.count x at r))
    into at None = f _
    into at (Some slot) = g at slot

    go : (p : Result ℕ Refusal) → P (listed_by s (entered_at s.held.slots s.held.index s.count x p))
    go (Err why) = f why
    go (Ok at) = into at (slot_for (length s.held.slots) (length s.held.index) s.count)

pub seal_cases : (s : Sealed) (x : List ℕ) (P : Sealed × Result (Unit {0}) Refusal → Type 0) → ((why : Refusal) → P (s, Err why))
    → ((at : ℕ) → P (sealed_by s (sealed_at s.held.seals s.parties x (Ok at)))) → P (seal_step s x)
seal_cases s x P f g = go (seal_fault s.held.seals s.list.length s.parties x)
  where
    go : (r : Result ℕ Refusal) → P (sealed_by s (sealed_at s.held.seals s.parties x r))
    go (Err why) = f why
    go (Ok at) = g at

pub opening_cases : (s : Sealed) (x : List ℕ) (P : Sealed × Result (Unit {0}) Refusal → Type 0) → ((why : Refusal) → P (s, Err why))
    → ((at : ℕ) → P (opened_by s (drop 1 x) (opened_at s.held.seals (drop 1 x) (Ok at)))) → P (opening_step s x)
opening_cases s x P f g =
    cond_both (eqb (length x) 0) (s, Err (OpeningLength 0)) _ P (λ e. f _) (λ e. go (opening_fault s.held.seals s.list.length s.parties s.list.hash (get_or x 0 0) (drop 1 x)))
  where
    go : (r : Result ℕ Refusal) → P (opened_by s (drop 1 x) (opened_at s.held.seals (drop 1 x) r))
    go (Err why) = f why
    go (Ok at) = g at
