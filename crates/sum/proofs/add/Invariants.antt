use Rattle.std.proofs.Common.{◌≡◌, take}
use Rattle.sum.proofs.add.Given as goal
use Rattle.sum.specs.Sums.{xor_bytes}

abbrev pub invariant-loop-i : goal.invariant-loop-i
invariant-loop-i l = l.sum ≡ xor_bytes l.initial.sum (take l.i l.row)
