use Rattle.std.proofs.Common.{ℕ, length, List, refl, sym, ap, ◌∙◌}
use Rattle.std.proofs.lemmas.List.{length_push}
use Rattle.std.proofs.lemmas.Result.{err_from_is_err_and}
use Rattle.refusals.specs.declared.Refusal.TheVariants.{OutOfRange}
use Rattle.protocol.specs.Check.{first_of, name_before, name_fault, refused_with}
use Rattle.protocol.specs.Layout.{name_count}
use Rattle.protocol.specs.Walk.{names_left, numbered_name}
use Rattle.protocol.proofs.Faults.{name_fault_is, before_more}
use Rattle.protocol.proofs.Firsts.{first_none, refused_first, passed_on}
use Rattle.protocol.proofs.Turns.{turn_is, turns_end}
use Rattle.protocol.proofs.ranges.check_names.Goals as goal

pub loop-name-init : goal.loop-name-init
loop-name-init c = record { before = refl; none = first_none (name_fault c.args.layout.now.bytes.now) }

pub loop-name-preserved : goal.loop-name-preserved
loop-name-preserved c =
    let B = c.args.layout.now.bytes.now in
    let i = c.loop-name.invariant in
    let k = length c.loop-name.yielded in
    let name = c.in-Some.name in
    let turn = turn_is B (name_count B) numbered_name names_left _ (cc) c.loop-name.yielded _ c.loop-name.yielded_by _ c.next.new.self c.next.ensures.steps name c.in-Some.is in
    let b = ap (λ (q : List ℕ × ℕ). q.0) turn.1 in
    let n = ap (λ (q : List ℕ × ℕ). q.1) turn.1 in
    let here = name_fault_is B name.bytes.now c.loop-name.before.now k name.number b n i.before in
    let more = length_push c.loop-name.yielded name in
    record {
      before = before_more B name.bytes.now c.text-before.result.now k name.number b n c.text-before.ensures ∙ ap (name_before B) (sym more);
      none = ap (first_of (name_fault B)) more ∙ passed_on (name_fault B) OutOfRange k i.none (c.in_ok-check_name.ensures ∙ ap (refused_with OutOfRange) here);
    }

pub returns-in_err-check_name : goal.returns-in_err-check_name
returns-in_err-check_name c =
    let B = c.args.layout.now.bytes.now in
    let i = c.loop-name.invariant in
    let k = length c.loop-name.yielded in
    let name = c.in-Some.name in
    let turn = turn_is B (name_count B) numbered_name names_left _ (cc) c.loop-name.yielded _ c.loop-name.yielded_by _ c.next.new.self c.next.ensures.steps name c.in-Some.is in
    let here = name_fault_is B name.bytes.now c.loop-name.before.now k name.number (ap (λ (q : List ℕ × ℕ). q.0) turn.1) (ap (λ (q : List ℕ × ℕ). q.1) turn.1) i.before in
    let p = err_from_is_err_and c.from_residual.result c.from_residual.ensures.1 in
    rw (p.1, p.2)
    (refused_first (name_fault B) OutOfRange k (name_count B) _ turn.0 i.none (c.in_err-check_name.ensures ∙ ap (refused_with OutOfRange) here))

pub returns : goal.returns
returns c =
    let B = c.args.layout.now.bytes.now in
    let end = turns_end B (name_count B) numbered_name names_left _ (cc) c.loop-name.yielded _ c.loop-name.yielded_by _ c.next.new.self c.next.ensures.steps c.in-None.is in
    ap (refused_with OutOfRange) (sym c.loop-name.invariant.none ∙ ap (first_of (name_fault B)) end)
