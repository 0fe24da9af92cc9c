use Rattle.std.proofs.Common.{rules}
use Rattle.output.proofs.Writing.{writes_then}
use Rattle.notation.proofs.shown.put_line.Goals as goal

pub returns : goal.returns
returns c = let w = writes_then c.put.ensures (writes_then c.put_rest.ensures c.put_byte.ensures) in search rules
