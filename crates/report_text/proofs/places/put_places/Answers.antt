use Rattle.std.proofs.Common.{◌+◌, get_or}
use Rattle.std.proofs.lemmas.List.{at_drop_more, at_drop_all}
use Rattle.output.proofs.Writing.{underway_turn, underway_done}
use Rattle.protocol.specs.Layout.{name_of}
use Rattle.report_text.specs.Report.{place_line, place_lines}
use Rattle.report_text.proofs.places.put_places.Goals as goal

pub loop-k-preserved : goal.loop-k-preserved
loop-k-preserved c =
    let k = c.loop-k.k in
    let bytes = c.args.protocol.now in
    let ns = c.args.order.now in
    underway_turn {xs = place_line (k + 1) (name_of bytes (get_or ns k 0))} (at_drop_more (place_lines bytes (k + 1)) ns k 0 c.loop-k-test.true) c.loop-k.invariant (rw (← c.name.ensures) c.put_line.ensures)

pub returns : goal.returns
returns c = underway_done (at_drop_all (place_lines c.args.protocol.now (c.loop-k.k + 1)) c.args.order.now c.loop-k.k c.loop-k-test.false) c.loop-k.invariant
