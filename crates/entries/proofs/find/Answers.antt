use Rattle.std.proofs.Common.{map, length, Less, Equal, Greater, sym, ◌∙◌, arith}
use Rattle.std.proofs.lemmas.Grind.{common_steps}
use Rattle.std.proofs.lemmas.List.{length-map}
use Rattle.entries.specs.Rows.{name_in}
use Rattle.entries.specs.Place.{place}
use Rattle.entries.proofs.Halving.{compared, closed}
use Rattle.entries.proofs.find.Goals as goal

pub loop-low-init : goal.loop-low-init
unfolding place
loop-low-init c =
    let ns = map (name_in c.args.slots.now) c.args.numbers.now in
    (omega arith, omega arith, (length ns, omega (arith, length-map c.args.numbers.now (name_in c.args.slots.now)), simp length-map))

pub loop-low-preserved-in-Less : goal.loop-low-preserved-in-Less
loop-low-preserved-in-Less c =
    let i = c.loop-low.invariant.2 in
    let p = compared c.args.slots.now c.args.numbers.now c.args.name.now _ i.0 c.loop-low.low c.loop-low.high Less c.loop-low-test.true c.loop-low.invariant.1 i.1 c.name_in.ensures.is c.in-Less.ensures in
    (omega arith, omega arith, (p.0, omega arith, sym p.1.1 ∙ i.2))

pub returns-in-Equal : goal.returns-in-Equal
returns-in-Equal c =
    let i = c.loop-low.invariant.2 in
    let p = compared c.args.slots.now c.args.numbers.now c.args.name.now _ i.0 c.loop-low.low c.loop-low.high Equal c.loop-low-test.true c.loop-low.invariant.1 i.1 c.name_in.ensures.is c.in-Equal.ensures in
    record { is = sym p.1.1 ∙ i.2; within = tt }

pub loop-low-preserved : goal.loop-low-preserved
loop-low-preserved c =
    let i = c.loop-low.invariant.2 in
    let p = compared c.args.slots.now c.args.numbers.now c.args.name.now _ i.0 c.loop-low.low c.loop-low.high Greater c.loop-low-test.true c.loop-low.invariant.1 i.1 c.name_in.ensures.is c.in-Greater.ensures in
    (omega arith, omega arith, (p.0, omega arith, sym p.1.1 ∙ i.2))

pub returns-clause-is : goal.returns-clause-is
returns-clause-is c = grind (arith, common_steps, closed)
