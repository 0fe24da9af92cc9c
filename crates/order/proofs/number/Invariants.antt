use Rattle.std.proofs.Common.{◌≡◌}
use Rattle.order.proofs.Numbering.{numbered}
use Rattle.order.proofs.number.Given as goal

abbrev pub invariant-loop-i : goal.invariant-loop-i
invariant-loop-i l = l.names ≡ numbered 0 l.i l.initial.names
