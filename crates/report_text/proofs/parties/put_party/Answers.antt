use Rattle.output.proofs.Writing.{writes_then}
use Rattle.report_text.proofs.parties.put_party.Goals as goal

pub returns-then-has_opened : goal.returns-then-has_opened
returns-then-has_opened c = rw (← c.if-has_opened.ensures) (writes_then c.put.ensures (writes_then c.put_decimal.ensures c.put-then-has_opened.ensures))

pub returns-else-has_opened : goal.returns-else-has_opened
returns-else-has_opened c = rw (← c.if-has_opened.ensures) (writes_then c.put.ensures (writes_then c.put_decimal.ensures c.put-else-has_opened.ensures))
