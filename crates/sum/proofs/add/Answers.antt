use Rattle.std.proofs.Common.{◌∙◌, arith}
use Rattle.std.proofs.lemmas.List.{set-get_or}
use Rattle.sum.proofs.add.Goals as goal
use Rattle.sum.proofs.InPlace.{none_added, next_added, all_added}
use Rattle.sum.proofs.Sums.{one_more_holds}

pub loop-i-init : goal.loop-i-init
loop-i-init c = none_added c.args.sum.now

pub loop-i-preserved : goal.loop-i-preserved
loop-i-preserved c =
    next_added _ _ _ _ _ c.loop-i.invariant (c.in-Some.ensures.lookup.3.1 0) (omega (arith, c.in-Some.ensures)) (omega arith)

pub returns-in_default : goal.returns-in_default
returns-in_default c =
    let e = set-get_or c.loop-i.sum c.loop-i.i 0 ∙ c.loop-i.invariant ∙ all_added c.args.sum.now c.args.row.now c.loop-i.i (omega (arith, c.in_default.ensures)) in
    record { after = e; more = one_more_holds _ _ _ e }

pub returns-after-loop-i : goal.returns-after-loop-i
returns-after-loop-i c =
    let e = c.loop-i.invariant ∙ all_added c.args.sum.now c.args.row.now c.loop-i.i (omega arith) in
    record { after = e; more = one_more_holds _ _ _ e }
