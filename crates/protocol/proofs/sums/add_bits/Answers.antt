use Rattle.std.proofs.Common.{ℕ, List, map, length, drop, refl, sym, ap, ◌∙◌}
use Rattle.std.specs.Option.{option_to_list}
use Rattle.std.proofs.lemmas.List.{length_push}
use Rattle.sum.specs.Sums.{sum_from}
use Rattle.protocol.specs.Layout.{party_of, party_count}
use Rattle.protocol.specs.Walk.{numbered_party, parties_left}
use Rattle.protocol.proofs.Opened.{so_far, summed_more}
use Rattle.protocol.proofs.Turns.{turn_is, turns_end}
use Rattle.protocol.proofs.sums.add_bits.Goals as goal

pub loop-party-init : goal.loop-party-init
unfolding sum_from
loop-party-init c = refl

pub loop-party-preserved : goal.loop-party-preserved
loop-party-preserved c =
    let B = c.args.layout.now.bytes.now in
    let k = length c.loop-party.yielded in
    let turn = turn_is B (party_count B) numbered_party parties_left _ (cc) c.loop-party.yielded _ c.loop-party.yielded_by _ c.next.new.self c.next.ensures.steps c.in-Some.party c.in-Some.is in
    let here = ap (λ (p : List ℕ × ℕ). sum_from c.loop-party.sum (map (drop 32) (option_to_list (party_of p.0 p.1).opening))) turn.1 in
    summed_more B c.args.sum.now c.loop-party.sum _ k c.loop-party.invariant (c.add_opening.ensures ∙ here)
    ∙ ap (λ (n : ℕ). sum_from c.args.sum.now (map (drop 32) (so_far B n))) (sym (length_push c.loop-party.yielded c.in-Some.party))

pub returns : goal.returns
returns c =
    let B = c.args.layout.now.bytes.now in
    let end = turns_end B (party_count B) numbered_party parties_left _ (cc) c.loop-party.yielded _ c.loop-party.yielded_by _ c.next.new.self c.next.ensures.steps c.in-None.is in
    c.loop-party.invariant ∙ ap (λ (n : ℕ). sum_from c.args.sum.now (map (drop 32) (so_far B n))) end
