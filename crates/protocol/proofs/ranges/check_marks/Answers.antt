use Rattle.std.proofs.Common.{length, sym, ap, ◌∙◌}
use Rattle.std.proofs.lemmas.List.{length_push}
use Rattle.std.proofs.lemmas.Result.{err_from_is_err_and}
use Rattle.refusals.specs.declared.Refusal.TheVariants.{OutOfRange}
use Rattle.protocol.specs.Check.{first_of, opened_fault, refused_with}
use Rattle.protocol.specs.Layout.{party_count}
use Rattle.protocol.specs.Walk.{numbered_party, parties_left}
use Rattle.protocol.proofs.Firsts.{first_none}
use Rattle.protocol.proofs.Turns.{turn_is, turns_end, turn_refused, turn_passed}
use Rattle.protocol.proofs.ranges.check_marks.Goals as goal

pub loop-party-init : goal.loop-party-init
loop-party-init c = let B = c.args.layout.now.bytes.now in first_none (opened_fault B)

pub loop-party-preserved : goal.loop-party-preserved
loop-party-preserved c =
    let B = c.args.layout.now.bytes.now in
    let turn = turn_is B (party_count B) numbered_party parties_left _ (cc) c.loop-party.yielded _ c.loop-party.yielded_by _ c.next.new.self c.next.ensures.steps c.in-Some.party c.in-Some.is in
    ap (first_of (opened_fault B)) (length_push c.loop-party.yielded c.in-Some.party)
    ∙ turn_passed B (party_count B) (opened_fault) OutOfRange (length c.loop-party.yielded) (numbered_party c.in-Some.party) turn c.loop-party.invariant c.in_ok-check_mark.ensures

pub returns-in_err-check_mark : goal.returns-in_err-check_mark
returns-in_err-check_mark c =
    let B = c.args.layout.now.bytes.now in
    let turn = turn_is B (party_count B) numbered_party parties_left _ (cc) c.loop-party.yielded _ c.loop-party.yielded_by _ c.next.new.self c.next.ensures.steps c.in-Some.party c.in-Some.is in
    let p = err_from_is_err_and c.from_residual.result c.from_residual.ensures.1 in
    rw (p.1, p.2)
    (turn_refused B (party_count B) (opened_fault) OutOfRange (length c.loop-party.yielded) (numbered_party c.in-Some.party) turn c.loop-party.invariant _ c.in_err-check_mark.ensures)

pub returns : goal.returns
returns c =
    let B = c.args.layout.now.bytes.now in
    let end = turns_end B (party_count B) numbered_party parties_left _ (cc) c.loop-party.yielded _ c.loop-party.yielded_by _ c.next.new.self c.next.ensures.steps c.in-None.is in
    ap (refused_with OutOfRange) (sym c.loop-party.invariant ∙ ap (first_of (opened_fault B)) end)
