use Rattle.output.proofs.Writing.{writes_then}
use Rattle.report_text.proofs.parties.put_counts.Goals as goal

pub returns : goal.returns
returns c =
    writes_then c.put_decimal.ensures
    (writes_then c.put.ensures (writes_then c.put_decimal-2.ensures (writes_then c.put-2.ensures (writes_then c.put_decimal-3.ensures c.put-3.ensures))))
