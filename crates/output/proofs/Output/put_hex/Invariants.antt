use Rattle.std.proofs.Common.{take}
use Rattle.output.specs.Hex.{hex}
use Rattle.output.specs.Writes.{Writes}
use Rattle.output.proofs.Output.put_hex.Given as goal

abbrev pub invariant-loop-byte : goal.invariant-loop-byte
invariant-loop-byte l = Writes l.initial.self l.self (hex (take l.byte-index l.bytes))
