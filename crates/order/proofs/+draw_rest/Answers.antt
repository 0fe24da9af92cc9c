use Rattle.std.proofs.Common.{sym, ◌-◌, length, take, drop, Some, None, ap, ◌∙◌, subst, arith}
use Rattle.order.proofs.+draw_rest.Goals as goal
use Rattle.order.proofs.Rests.{Answer, no_names, first_out, later_out, later_drawn}
use Rattle.order.specs.Drawings.{drawing_of}
use Rattle.std.specs.Option.{option_map}
use Rattle.uniform.proofs.Bits.{length_bits}
use Rattle.uniform.specs.Bits.{bits}

pub returns-then-n-eq0 : goal.returns-then-n-eq0
returns-then-n-eq0 t c =
    let r = c.args.reader.now in
    let a = no_names (bits r.bytes.now) c.args.left.now c.args.order.now r.at c.requires.each (omega arith) in
    record { is = a.0; after = a.1 }

pub returns-in_err-k : goal.returns-in_err-k
returns-in_err-k t c =
    let r = c.args.reader.now in
    let next = c.draw_below.new.self.at in
    let a = first_out (bits r.bytes.now) c.args.left.now c.args.order.now r.at c.requires.each (omega arith)
    (omega (arith, length_bits r.bytes.now, r.placed)) (sym (ap (option_map (λ k. (k, next))) c.in_err-k.was) ∙ c.draw_below.ensures.is) in
    record { is = ap (option_map _) c.from_residual.ensures ∙ a.0; after = a.1 }

pub returns-in_err-draw_rest : goal.returns-in_err-draw_rest
returns-in_err-draw_rest t c =
    let r = c.args.reader.now in
    let next = c.draw_below.new.self.at in
    let n = length c.args.order.now in
    let left = c.take_out-name.result.1.now in
    let h = c.in_err-draw_rest.ensures in
    let d = subst (λ b. Answer (drawing_of left (drop next (bits b.now))) next (take (n - 1) (drop 1 c.args.order.now)) None c.draw_rest.new.order) c.in_ok-k.ensures.same (h.is, h.after) in
    let a = later_out (bits r.bytes.now) c.args.left.now left c.args.order.now r.at c.in_ok-k.k next
    c.requires.each (omega arith) (omega (arith, length_bits r.bytes.now, r.placed)) c.in_ok-k.ensures.is c.take_out-name.ensures.left
    c.draw_rest.new.order d in
    record { is = ap (option_map _) c.from_residual-in_err-draw_rest.ensures ∙ a.0; after = a.1 }

pub returns : goal.returns
returns t c =
    let r = c.args.reader.now in
    let next = c.draw_below.new.self.at in
    let n = length c.args.order.now in
    let left = c.take_out-name.result.1.now in
    let h = c.in_ok-draw_rest.ensures in
    let end = c.draw_rest.new.reader.at in
    let d = subst (λ b. Answer (drawing_of left (drop next (bits b.now))) next (take (n - 1) (drop 1 c.args.order.now)) (Some end) c.draw_rest.new.order) c.in_ok-k.ensures.same (h.is, h.after) in
    let a = later_drawn (bits r.bytes.now) c.args.left.now left c.args.order.now r.at c.in_ok-k.k next
    c.requires.each (omega arith) (omega (arith, length_bits r.bytes.now, r.placed)) c.in_ok-k.ensures.is c.take_out-name.ensures.left
    c.draw_rest.new.order end c.take_out-name.result.0 c.take_out-name.ensures.is d in
    record { is = a.0; after = a.1 }
