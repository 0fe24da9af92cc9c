use Rattle.std.proofs.Common.{◌≡◌, length, ap, ◌∙◌, inl, arith, rules}
use Rattle.std.specs.List.{filter}
use Rattle.std.proofs.lemmas.Iterator.Consumers.{YieldsList-from_first, YieldsList-from_filter, count_from_yields_List}
use Rattle.protocol.specs.Layout.{party_count, opened_in}
use Rattle.protocol.specs.Walk.{numbered_party, numbers_between, parties_left}
use Rattle.protocol.proofs.Opened.{opened_filter, few_opened}
use Rattle.protocol.proofs.Turns.{turns}
use Rattle.protocol.proofs.openings.opened_count.Goals as goal

counted : (c : goal.After-count) → c.count.result ≡ length (filter (λ p. opened_in p.0 p.1) (numbers_between c.args.layout.now.bytes.now 0 (party_count c.args.layout.now.bytes.now)))
counted c =
    let B = c.args.layout.now.bytes.now in
    count_from_yields_List c.filter.result c.count.result c.count.ensures.ran
    (YieldsList-from_filter _ (λ p. opened_in p.0 p.1) (YieldsList-from_first numbered_party parties_left (numbers_between B 0 (party_count B)) (cc)) c.filter.ensures.closure (λ x r q k. search rules))

pub count-requires-clause-fits : goal.count-requires-clause-fits
count-requires-clause-fits c =
    let B = c.args.layout.now.bytes.now in
    let e : parties_left c.filter.result.iter ≡ numbers_between B 0 (party_count B) = cc in
    let few = c.args.layout.now.laid_out.few_parties in
    let same = c.args.layout.now.laid_out.parties_are in
    inl (omega (arith, ap length e, turns B (party_count B)))

pub overflow_cast-result : goal.overflow_cast-result
overflow_cast-result c =
    let B = c.args.layout.now.bytes.now in
    let few = c.args.layout.now.laid_out.few_parties in
    let same = c.args.layout.now.laid_out.parties_are in
    omega (arith, counted c, few_opened B (party_count B))

pub returns : goal.returns
returns c = counted c ∙ opened_filter c.args.layout.now.bytes.now (party_count c.args.layout.now.bytes.now)
