use Rattle.std.proofs.Common.{drop, map}
use Rattle.output.proofs.Writing.{Underway}
use Rattle.notation.proofs.Pairs.{pair_byte}
use Rattle.notation.proofs.hex.put_bytes_of.Given as goal

abbrev pub invariant-loop-high : goal.invariant-loop-high
invariant-loop-high l = Underway l.initial.out l.out (map pair_byte l.pairs) (map pair_byte (drop l.high-index l.pairs))
