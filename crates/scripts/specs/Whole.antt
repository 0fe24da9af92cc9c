-- What the run of a script comes to. Assumes nothing.
use Rattle.std.specs.Prelude.{◌≡◌, [], length}
use Rattle.ceremony.specs.Model.{Ended}
use Rattle.ceremony.specs.Draws.{ended}
use Rattle.seals.specs.Records.{opened_count}
use Rattle.ceremony.specs.Reports.{order_of}
use Rattle.order.specs.Drawings.{drawn_order}
use Rattle.protocol.specs.Protocol.{ordered}
use Rattle.runs.specs.Runs.{after_steps, refusals_in}
use Rattle.runs.specs.Reports.{fresh}
use Rattle.sum.specs.Sums.{sum_of}
use Rattle.scripts.specs.Script.{Script, Right, script_steps, rows_of}

-- the run takes every step and ends; it counts the names, the parties and the openings, and the order is drawn from the sum of the openings
pub record Ends (s : Script) (e : Ended) : Type 0 where
  pub run : after_steps fresh (script_steps s) ≡ ended e
  pub none_refused : refusals_in fresh 1 (script_steps s) ≡ []
  pub names : e.list.count ≡ length s.names
  pub parties : e.parties ≡ length s.seals
  pub opened : opened_count e.held.seals e.list.length e.parties ≡ length s.comes
  pub order : order_of e ≡ ordered (drawn_order (length s.names) (sum_of s.len (rows_of s)) 0)

-- RUNS WHOLE: the run of every script takes each step and ends, with the order drawn from the sum of its openings
abbrev pub RunsWhole : Type 0
RunsWhole = (s : Script) → Right s → (e : Ended) × Ends s e
