use Rattle.std.proofs.Common.{rules}
use Rattle.output.proofs.Writing.{writes_then}
use Rattle.notation.proofs.step.Told.put_bytes.Goals as goal
use Rattle.notation.proofs.step.Told.put_bytes.Goals.{in-Some, in_default}

pub returns : goal.returns
returns c = elim c.match-self.branch [
  | in-Some w ↦ let all = writes_then w.put_byte.ensures (rw w.out-is at c.put.ensures) in search rules
  | in_default w ↦ search rules
]
