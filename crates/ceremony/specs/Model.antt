-- The state of a draw by what its memory holds and its numbers. Assumes nothing.
use Rattle.std.specs.Prelude.{◌≡◌, ℕ, List, Option, Ok, Err, Result}
use Rattle.refusals.specs.declared.Refusal.{Refusal}
use Rattle.ceremony.specs.declared.memory.Memory.{Memory}
use Rattle.ceremony.specs.declared.memory.ClosedList.{ClosedList}
use Rattle.ceremony.specs.declared.closed.Closed.{Closed}
use Rattle.ceremony.specs.declared.entering.Listing.{Listing}
use Rattle.ceremony.specs.declared.sealing.Sealing.{Sealing}
use Rattle.ceremony.specs.declared.opening.Opening.{Opening}
use Rattle.ceremony.specs.declared.finished.Finished.{Finished}

-- what the lent slices hold
pub record Held : Type 0 where
  pub slots : List ℕ
  pub index : List ℕ
  pub seals : List ℕ
  pub bits : List ℕ
  pub order : List ℕ

abbrev pub held : Memory → Held
held m = record { slots = m.slots.now; index = m.index.now; seals = m.seals.now; bits = m.bits.now; order = m.order.now }

-- entries are taken: how many names there are
pub record Listed : Type 0 where
  pub held : Held
  pub count : ℕ

-- the list is closed, and seals or openings are taken: how many parties there are
pub record Sealed : Type 0 where
  pub held : Held
  pub list : ClosedList
  pub parties : ℕ

-- the draw has ended
pub record Ended : Type 0 where
  pub held : Held
  pub list : ClosedList
  pub parties : ℕ
  pub outcome : Option ℕ

abbrev pub as_listed : Listing → Listed
as_listed s =
    record {
      held = record { slots = s.list.slots.now; index = s.list.index.now; seals = s.seals.now; bits = s.bits.now; order = s.order.now };
      count = s.list.count;
    }

-- a draw before its first entry
abbrev pub no_entries : Held → Listed
no_entries m = record { held = m; count = 0 }

abbrev pub sealed : Closed → Sealed
sealed c =
    record {
      held = record { slots = c.list.slots.now; index = c.list.index.now; seals = c.parties.records.now; bits = c.bits.now; order = c.order.now };
      list = record { count = c.list.count; length = c.parties.length; hash = c.hash };
      parties = c.parties.count;
    }

abbrev pub as_sealed : Sealing → Sealed
as_sealed s = sealed s.closed

abbrev pub as_opened : Opening → Sealed
as_opened s = sealed s.closed

abbrev pub as_ended : Finished → Ended
as_ended s = let c = sealed s.closed in record { held = c.held; list = c.list; parties = c.parties; outcome = s.used }

-- a closing gives the next state, or the same state back with the refusal
abbrev pub Passed : {S T A B : Type 0} → (S → A) → (T → B) → A → Result B Refusal → Result T (S × Refusal) → Type 0
Passed f g s (Ok t) (Ok t') = g t' ≡ t
Passed f g s (Ok t) (Err p) = ⊥
Passed f g s (Err why) (Ok t') = ⊥
Passed f g s (Err why) (Err p) = (f p.0 ≡ s) × (p.1 ≡ why)
