use Rattle.std.proofs.Common.{rules, ◌∙◌}
use Rattle.std.proofs.lemmas.Iterator.{YieldsList-from_chars}
use Rattle.std.proofs.lemmas.Iterator.Search.{any_from_yields_List}
use Rattle.std.specs.Char.{is_control}
use Rattle.names_text.proofs.Characters.{text_of_utf8, text_of_none, text_decided}
use Rattle.names_text.proofs.is_text.Goals as goal
use borrow.Author.Tests.{tests}

pub returns-then-not-is_empty-clause-is : goal.returns-then-not-is_empty-clause-is
returns-then-not-is_empty-clause-is c =
    let utf8 = c.in-Ok.ensures.cases.1 in
    let any = any_from_yields_List is_control _ _ c.any.result c.any.ensures.ran (YieldsList-from_chars c.args.bytes.now utf8 (c.chars.ensures.rest ∙ c.in-Ok.ensures.cases.0)) (λ x b q k. search (rules, tests)) in
    let text = text_of_utf8 c.args.bytes.now utf8 in
    search rules

pub returns-then-not-is_empty-clause-characters : goal.returns-then-not-is_empty-clause-characters
returns-then-not-is_empty-clause-characters c = text_decided c.args.bytes.now _ (returns-then-not-is_empty-clause-is c)

pub returns-else-not-is_empty-clause-characters : goal.returns-else-not-is_empty-clause-characters
returns-else-not-is_empty-clause-characters c = text_decided c.args.bytes.now _ (search rules)

pub returns-in-Err-clause-is : goal.returns-in-Err-clause-is
returns-in-Err-clause-is c = text_of_none c.args.bytes.now c.in-Err.ensures.cases.0

pub returns-in-Err-clause-characters : goal.returns-in-Err-clause-characters
returns-in-Err-clause-characters c = text_decided c.args.bytes.now _ (returns-in-Err-clause-is c)
