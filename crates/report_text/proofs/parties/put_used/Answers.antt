use Rattle.output.proofs.Writing.{writes_then}
use Rattle.report_text.proofs.parties.put_used.Goals as goal

pub returns-in-Some : goal.returns-in-Some
returns-in-Some c = rw c.in-Some.is (writes_then c.put.ensures (writes_then c.put_decimal.ensures c.put-in-Some.ensures))
