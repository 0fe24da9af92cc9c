use Rattle.std.proofs.Common.{[], rules}
use Rattle.step_file.proofs.Walk.{once, shorter}
use Rattle.step_file.proofs.StepsIterator.next.Goals as goal

pub returns-in-Ok-None-clause-steps : goal.returns-in-Ok-None-clause-steps
returns-in-Ok-None-clause-steps c =
    let none = rw c.in-Ok-None.field-0-is at c.in-Ok-None.ensures in
    let file = rw (← none) at (once c.args.self.now.rest.now) in
    search rules

pub returns-in-Ok-Some-clause-steps : goal.returns-in-Ok-Some-clause-steps
returns-in-Ok-Some-clause-steps c =
    let first = rw c.in-Ok-Some.field-0-is at c.in-Ok-Some.ensures in
    let file = rw (← first) at (once c.args.self.now.rest.now) in
    search rules

pub returns-in-Ok-Some-clause-goes : goal.returns-in-Ok-Some-clause-goes
returns-in-Ok-Some-clause-goes c =
    let first = rw c.in-Ok-Some.field-0-is at c.in-Ok-Some.ensures in
    let less = rw (← first) at (shorter c.args.self.now.rest.now) in
    search rules

pub returns-in-Err-clause-steps : goal.returns-in-Err-clause-steps
returns-in-Err-clause-steps c =
    let file = rw (← c.in-Err.ensures) at (once c.args.self.now.rest.now) in
    let none = once [] in
    search rules
