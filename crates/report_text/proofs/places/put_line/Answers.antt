use Rattle.output.proofs.Writing.{writes_then}
use Rattle.report_text.proofs.places.put_line.Goals as goal

pub returns : goal.returns
returns c = writes_then c.put.ensures (writes_then c.put_decimal.ensures c.put_name.ensures)
