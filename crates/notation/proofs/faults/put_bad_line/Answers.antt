use Rattle.std.proofs.Common.{rules}
use Rattle.output.proofs.Writing.{writes_then}
use Rattle.notation.proofs.faults.put_bad_line.Goals as goal

pub returns : goal.returns
returns c =
    let all = writes_then c.put.ensures (writes_then c.put_decimal.ensures (writes_then c.put-2.ensures c.put-3.ensures)) in
    search rules
