use Rattle.std.proofs.Common.{rules, length, sym, ap, ◌∙◌}
use Rattle.notation.proofs.Named.{named_none, named_next}
use Rattle.notation.proofs.paths.PathsIterator.next.Goals as goal

pub returns-in-Some-clause-steps : goal.returns-in-Some-clause-steps
returns-in-Some-clause-steps c =
    let next = named_next c.loop-self.self.text.now c.loop-self.self.at (search rules) _ _ c.split_once.ensures.before c.without_return-line.ensures in
    search rules

pub returns-in-Some-clause-goes : goal.returns-in-Some-clause-goes
returns-in-Some-clause-goes c =
    let more = ap length (returns-in-Some-clause-steps c) in
    search rules

pub loop-self-preserved : goal.loop-self-preserved
loop-self-preserved c =
    let next = named_next c.loop-self.self.text.now c.loop-self.self.at (search rules) _ _ c.split_once.ensures.before c.without_return-line.ensures in
    search rules

pub returns-clause-steps : goal.returns-clause-steps
returns-clause-steps c =
    let none = named_none c.loop-self.self.text.now c.loop-self.self.at (search rules) in
    (sym c.loop-self.invariant ∙ none, none)
