use Rattle.std.proofs.Common.{string_bytes}
use Rattle.std.specs.Iterator.Adapters.{enumerate_source, enumerate_count}
use Rattle.ceremony.specs.Draws.{state}
use Rattle.runs.proofs.Turns.{Leads}
use Rattle.runs.proofs.all_steps.run.Given as goal

abbrev pub invariant-loop-before : goal.invariant-loop-before
invariant-loop-before l =
    (goal.iterator-loop-before).can_next l.before-iterator
    × (goal.iterator-loop-before).is_finite l.before-iterator
    × Leads l.file (state l.initial.draw) (string_bytes l.initial.text) (enumerate_source l.before-iterator).rest.now (state l.draw) (string_bytes l.text) (enumerate_count l.before-iterator)
