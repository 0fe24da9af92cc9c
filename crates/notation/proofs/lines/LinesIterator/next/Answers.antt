use Rattle.std.proofs.Common.{◌≡◌, ◌<◌, length, [], ap, rules}
use Rattle.std.proofs.lemmas.List.{nil_from_length}
use Rattle.notation.specs.Lines.{lines}
use Rattle.notation.proofs.Parts.{first_line}
use Rattle.notation.proofs.lines.LinesIterator.next.Goals as goal

pub returns-then-is_empty-clause-steps : goal.returns-then-is_empty-clause-steps
unfolding lines
returns-then-is_empty-clause-steps c =
    let none : c.args.self.now.rest.now ≡ [] = nil_from_length _ (search rules) in
    let e = ap lines none in
    (e, e)

pub returns-clause-steps : goal.returns-clause-steps
returns-clause-steps c =
    let some : 0 < length c.args.self.now.rest.now = search rules in
    rw (c.split_once.ensures.before, c.split_once.ensures.after) (first_line c.args.self.now.rest.now some)
