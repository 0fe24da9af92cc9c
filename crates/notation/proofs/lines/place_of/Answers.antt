use Rattle.std.proofs.Common.{◌==◌, not, rules}
use Rattle.std.proofs.lemmas.Iterator.{YieldsList-from_slice}
use Rattle.std.proofs.lemmas.Iterator.Search.{position_from_yields_List}
use Rattle.std.proofs.lemmas.List.Sums.{prefix_len-le-length}
use Rattle.notation.proofs.lines.place_of.Goals as goal
use borrow.Author.Tests.{tests}

pub returns-clause-place : goal.returns-clause-place
returns-clause-place c =
    let place = position_from_yields_List (λ b. b == c.args.byte) _ _ c.position.result c.position.ensures.ran (YieldsList-from_slice c.args.bytes.now cc) (λ x b q k. search (rules, tests)) in
    let within = prefix_len-le-length (λ b. not (b == c.args.byte)) c.args.bytes.now in
    search rules
