use Rattle.std.proofs.Common.{◌∙◌, min, length, arith}
use Rattle.order.proofs.draw_order.Goals as goal
use Rattle.order.proofs.Once.{each_once_holds}
use Rattle.order.proofs.Slices.{too_long, front_out, front_drawn}
use Rattle.order.proofs.Used.{exactly_read_holds}

pub returns-in_err-reader : goal.returns-in_err-reader
returns-in_err-reader c =
    let a = too_long (min (length c.args.order.now) 65535) c.args.bytes.now c.args.order.now c.args.from c.in_err-reader.ensures in
    record { is = c.from_residual.ensures ∙ a.0; after = a.1; once = each_once_holds _ _ _; exact = exactly_read_holds _ _ _ }

pub returns-in_err-draw_rest : goal.returns-in_err-draw_rest
returns-in_err-draw_rest c =
    let h = c.in_err-draw_rest.ensures in
    let r = c.in_ok-reader.reader in
    let a = front_out c.args.bytes.now r.bytes.now c.args.order.now c.number.new.names c.draw_rest.new.order c.args.from r.at c.min-n.result _
    c.in_ok-reader.ensures.0 c.in_ok-reader.ensures.1 r.placed c.min-n.ensures c.number.ensures (omega arith) (h.is, h.after) in
    record { is = c.from_residual-in_err-draw_rest.ensures ∙ a.0; after = a.1; once = each_once_holds _ _ _; exact = exactly_read_holds _ _ _ }

pub returns : goal.returns
returns c =
    let h = c.in_ok-draw_rest.ensures in
    let r = c.in_ok-reader.reader in
    let a = front_drawn c.args.bytes.now r.bytes.now c.args.order.now c.number.new.names c.draw_rest.new.order c.args.from r.at c.min-n.result _
    c.in_ok-reader.ensures.0 c.in_ok-reader.ensures.1 r.placed c.min-n.ensures c.number.ensures (omega arith) c.draw_rest.new.reader.at (h.is, h.after) in
    record { is = a.0; after = a.1; once = each_once_holds _ _ _; exact = exactly_read_holds _ _ _ }
