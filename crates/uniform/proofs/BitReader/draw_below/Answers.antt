use Rattle.std.proofs.Common.{◌≡◌, suc, ◌+◌, length, drop, Some, None, sym, refl, ap, ◌∙◌, subst, arith}
use Rattle.std.proofs.lemmas.List.{length-drop}
use Rattle.uniform.proofs.Bits.{length_bits}
use Rattle.uniform.proofs.BitReader.draw_below.Goals as goal
use Rattle.uniform.proofs.Draws.{draw_none}
use Rattle.uniform.proofs.Places.{turn_got, turn_reads, turn_again, turn_out, answers_got, answers_out}
use Rattle.uniform.specs.Bits.{bits}
use Rattle.uniform.specs.Draws.{draw, drawn_at}

pub returns-then-n-eq0-clause-is : goal.returns-then-n-eq0-clause-is
returns-then-n-eq0-clause-is c =
    let rest = drop c.args.self.now.at (bits c.args.self.now.bytes.now) in
    answers_out (bits c.args.self.now.bytes.now) c.args.self.now.at c.args.n
    (ap (λ j. draw (suc (length rest)) j rest) c.if-n-eq0.true ∙ draw_none (suc (length rest)) rest)

pub loop-value-init : goal.loop-value-init
loop-value-init c =
    let r = c.args.self.now in
    (refl, omega arith, omega arith, (suc (length (drop r.at (bits r.bytes.now))), omega (arith, length-drop r.at (bits r.bytes.now), length_bits r.bytes.now), refl))

pub returns-then-value-n-clause-is : goal.returns-then-value-n-clause-is
returns-then-value-n-clause-is c =
    let r = c.loop-value.self in
    let all = bits r.bytes.now in
    let long = length_bits r.bytes.now in
    let i = c.loop-value.invariant in
    let w = c.bit_width-w.result in
    let v = c.in-Some.value in
    let next = c.loop-value.at + w in
    subst (λ s. Some (v, next) ≡ drawn_at (bits s.bytes.now) s.at c.args.n) i.0
    (answers_got all r.at c.args.n v next (omega (arith, r.placed))
    (sym i.3.2 ∙ turn_got c.args.n w c.loop-value.at v all c.bit_width-w.ensures.is c.in-Some.ensures.1 (omega (arith, c.in-Some.ensures.0)) i.3.0 (omega arith) (omega arith))
    (omega arith) (omega (arith, c.in-Some.ensures.0)))

pub loop-value-smaller : goal.loop-value-smaller
loop-value-smaller c =
    let long = length_bits c.loop-value.self.bytes.now in
    let room = c.in-Some.ensures.0 in
    omega (
      arith,
      room,
      turn_reads c.args.n c.bit_width-w.result c.loop-value.at c.in-Some.value (bits c.loop-value.self.bytes.now)
          c.bit_width-w.ensures.is c.in-Some.ensures.1 (omega (arith, room)) (omega arith) (omega arith),
    )

pub loop-value-preserved : goal.loop-value-preserved
loop-value-preserved c =
    let long = length_bits c.loop-value.self.bytes.now in
    let i = c.loop-value.invariant in
    let room = c.in-Some.ensures.0 in
    let g = turn_again c.args.n c.bit_width-w.result c.loop-value.at c.in-Some.value (bits c.loop-value.self.bytes.now)
    c.bit_width-w.ensures.is c.in-Some.ensures.1 (omega (arith, room)) i.3.0 _ i.3.2 (omega arith) (omega arith) (omega arith) in
    (i.0, omega arith, omega (arith, room), (g.0, omega (arith, g.1), g.2))

pub returns-clause-is : goal.returns-clause-is
returns-clause-is c =
    let r = c.loop-value.self in
    let all = bits r.bytes.now in
    let long = length_bits r.bytes.now in
    let i = c.loop-value.invariant in
    subst (λ s. None ≡ drawn_at (bits s.bytes.now) s.at c.args.n) i.0
    (answers_out all r.at c.args.n
    (sym i.3.2 ∙ turn_out i.3.0 c.args.n c.bit_width-w.result c.loop-value.at all c.bit_width-w.ensures.is (omega (arith, c.in_default.ensures))))
