use Rattle.output.proofs.Writing.{writes_then}
use Rattle.report_text.proofs.parties.put_bits.Goals as goal

pub returns : goal.returns
returns c = rw (← c.bits_length.ensures, ← c.from.ensures) (writes_then c.put_used.ensures (writes_then c.put_decimal.ensures c.put.ensures))
