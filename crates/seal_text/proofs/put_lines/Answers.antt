use Rattle.output.proofs.Writing.{writes_then}
use Rattle.seal_text.proofs.put_lines.Goals as goal

pub returns : goal.returns
returns c = writes_then c.put.ensures (writes_then c.put_decimal.ensures (writes_then c.put-2.ensures (writes_then c.put_hex.ensures c.put-3.ensures)))
