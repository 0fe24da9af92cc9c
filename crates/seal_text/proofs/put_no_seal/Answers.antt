use Rattle.output.proofs.Writing.{writes_then}
use Rattle.seal_text.proofs.put_no_seal.Goals as goal

pub returns-in-OpeningLength : goal.returns-in-OpeningLength
returns-in-OpeningLength c =
    rw c.in-OpeningLength.is
    (writes_then c.put-in-OpeningLength.ensures
    (writes_then c.put_decimal.ensures
    (writes_then c.put-in-OpeningLength-2.ensures
    (writes_then c.put_decimal-in-OpeningLength.ensures c.put-in-OpeningLength-3.ensures))))
