use Rattle.std.proofs.Common.{rules}
use Rattle.runs.proofs.Turns.{ends, goes_on}
use Rattle.runs.proofs.all_steps.run.Goals as goal

pub loop-before-init : goal.loop-before-init
loop-before-init c = (search rules, search rules, record { state = search rules; cut = search rules; text = search rules })

pub returns-in-Err-clause-state : goal.returns-in-Err-clause-state
returns-in-Err-clause-state c = (ends _ _ _ _ _ _ _ c.loop-before.invariant.2 (search rules)).0

pub returns-in-Err-clause-text : goal.returns-in-Err-clause-text
returns-in-Err-clause-text c = (ends _ _ _ _ _ _ _ c.loop-before.invariant.2 (search rules)).1

pub loop-before-preserved : goal.loop-before-preserved
loop-before-preserved c =
    (search rules, search rules, goes_on _ _ _ _ _ _ _ c.loop-before.invariant.2 _ _ _ (search rules) (search rules) c.in-Some.before _ (search rules) (search rules) _ _ c.in_ok-draw.ensures.state c.in_ok-draw.ensures.text)

pub returns-clause-state : goal.returns-clause-state
returns-clause-state c = (ends _ _ _ _ _ _ _ c.loop-before.invariant.2 (search rules)).0

pub returns-clause-text : goal.returns-clause-text
returns-clause-text c = (ends _ _ _ _ _ _ _ c.loop-before.invariant.2 (search rules)).1
