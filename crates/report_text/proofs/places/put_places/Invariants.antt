use Rattle.std.proofs.Common.{◌+◌, drop}
use Rattle.output.proofs.Writing.{Underway}
use Rattle.report_text.specs.Report.{place_lines}
use Rattle.report_text.proofs.places.put_places.Given as goal

abbrev pub invariant-loop-k : goal.invariant-loop-k
invariant-loop-k l = Underway l.initial.out l.out (place_lines l.protocol 1 l.order) (place_lines l.protocol (l.k + 1) (drop l.k l.order))
