use Rattle.std.proofs.Common.{◌≡◌, vec_items, ap, ◌∙◌}
use Rattle.std.specs.Option.{option_map}
use Rattle.output.proofs.Writing.{writes_then, writes_as}
use Rattle.protocol.specs.Check.{accepted, verdict}
use Rattle.report_text.specs.Report.{order_lines, told}
use Rattle.report_text.proofs.Using.{accepted_bits}
use Rattle.report_text.proofs.report.put_report.Goals as goal

pub returns-in_ok-used-in-Ok-clause-text : goal.returns-in_ok-used-in-Ok-clause-text
returns-in_ok-used-in-Ok-clause-text c =
    let bytes = c.args.protocol.now in
    let a = c.in-Ok.accepted in
    let v : accepted a.names a.parties a.opened (option_map vec_items a.order) ≡ verdict bytes = c.in-Ok.ensures.is in
    let used = c.in_ok-used-in-Ok.ensures ∙ accepted_bits a.names a.parties a.opened (option_map vec_items a.order) bytes v in
    writes_as (ap (told bytes) v)
    (writes_then c.put_counts.ensures (writes_then c.put_parties.ensures (writes_then c.put_hash.ensures (writes_then (rw used at c.put_bits.ensures) (writes_as (ap (order_lines bytes) c.as_deref.ensures.value) c.put_order.ensures)))))
