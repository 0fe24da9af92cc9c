use Rattle.std.proofs.Common.{sym, ◌∙◌}
use Rattle.output.proofs.Writing.{writes_then}
use Rattle.report_text.proofs.places.put_name.Goals as goal
use Rattle.report_text.proofs.places.put_name.Goals.{then-is_text, else-is_text}

pub returns : goal.returns
returns c =
    elim c.if-is_text.branch [
      | then-is_text w ↦ rw (sym c.is_text.ensures.is ∙ w.if-is_text.true) (writes_then w.put.ensures (writes_then w.put-then-is_text.ensures (rw w.out-is at c.put-2.ensures)))
      | else-is_text w ↦ rw (sym c.is_text.ensures.is ∙ w.if-is_text.false) (writes_then w.put-else-is_text.ensures (writes_then w.put_hex.ensures (rw w.out-is at c.put-2.ensures)))
    ]
