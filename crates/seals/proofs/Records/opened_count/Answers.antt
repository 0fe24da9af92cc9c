use Rattle.std.proofs.Common.{◌≡◌, length, ◌∙◌, rules, tests, arith}
use Rattle.std.specs.List.{filter, range_with_len}
use Rattle.std.proofs.lemmas.Iterator.{YieldsList-from_range}
use Rattle.std.proofs.lemmas.Iterator.Consumers.{count_from_yields_List, YieldsList-from_filter}
use Rattle.std.proofs.lemmas.List.Sums.{length-filter}
use Rattle.seals.specs.Records.{has_opened}
use Rattle.seals.proofs.Counted.{counted}
use Rattle.seals.proofs.Records.opened_count.Goals as goal

pub returns-clause-is : goal.returns-clause-is
returns-clause-is c =
    let records = c.args.self.now in
    let opened = has_opened records.bytes.now records.length in
    let e : c.count.result ≡ length (filter opened (range_with_len 0 records.count)) =
    count_from_yields_List c.filter.result _ c.count.ensures.ran
    (YieldsList-from_filter _ opened (YieldsList-from_range 0 records.count records.count (cc) (omega arith)) c.filter.ensures.closure (λ x r q k. search (rules, tests))) in
    e ∙ length-filter opened (range_with_len 0 records.count) ∙ counted records.bytes.now records.length records.count
