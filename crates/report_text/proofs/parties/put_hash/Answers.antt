use Rattle.output.proofs.Writing.{writes_then}
use Rattle.report_text.proofs.parties.put_hash.Goals as goal

pub returns : goal.returns
returns c = rw (← c.list_hash.ensures) (writes_then c.put.ensures (writes_then c.put_hex.ensures c.put-2.ensures))
