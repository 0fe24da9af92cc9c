use Rattle.output.proofs.Writing.{writes_then}
use Rattle.report_text.proofs.refused.put_sentence.Goals as goal

pub returns : goal.returns
returns c =
    rw (← c.number.ensures, ← c.place.ensures, ← c.reason.ensures)
    (writes_then c.put.ensures
    (writes_then c.put_decimal.ensures
    (writes_then c.put-2.ensures (writes_then c.put_decimal-2.ensures (writes_then c.put-3.ensures (writes_then c.put-4.ensures c.put-5.ensures))))))
