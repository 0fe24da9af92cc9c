use Rattle.std.proofs.Common.{ap, sym, ◌∙◌}
use Rattle.std.specs.List.{flat_map}
use Rattle.output.proofs.Writing.{underway_turn, underway_done}
use Rattle.notation.specs.Shown.{line_shown}
use Rattle.notation.proofs.shown.put_lines.Goals as goal

pub loop-step-preserved : goal.loop-step-preserved
loop-step-preserved c =
    let first = rw c.in_ok-step.was at c.in-Some.ensures.steps in
    (underway_turn (ap (flat_map line_shown) first.0) c.loop-step.invariant.0 c.put_line.ensures, sym first.1 ∙ c.loop-step.invariant.1)

pub returns : goal.returns
returns c =
    let none = c.in-None.ensures.steps in
    (sym c.loop-step.invariant.1 ∙ none.1, underway_done (ap (flat_map line_shown) none.0) c.loop-step.invariant.0)
