use Rattle.std.proofs.Common.{◌≡◌, ℕ, List, Option, Some, vec_items, refl, sym, ap, ◌∙◌, arith, rules}
use Rattle.std.specs.Option.{option_map}
use Rattle.std.proofs.lemmas.Result.{err_from_is_err_and}
use Rattle.refusals.specs.declared.Refusal.TheVariants.{WrongOrder}
use Rattle.protocol.specs.Check.{refused, answered, early_fault, drawing_of, order_fault, opened_count}
use Rattle.protocol.specs.Found.{drawing}
use Rattle.protocol.specs.Layout.{name_count, party_count}
use Rattle.protocol.specs.Protocol.{ordered}
use Rattle.protocol.proofs.Answered.{promised}
use Rattle.protocol.proofs.Verdicts.{fault_refused, fault_passed, verdict_early, verdict_late, verdict_accepted}
use Rattle.protocol.proofs.check.Goals as goal

pub returns-in_err-check_early : goal.returns-in_err-check_early
returns-in_err-check_early c =
    let B = c.args.protocol.now in
    let why = c.in_err-check_early.field-0.0 in
    let p = err_from_is_err_and c.from_residual.result c.from_residual.ensures.1 in
    let e = verdict_early B why (fault_refused why _ c.in_err-check_early.ensures ∙ ap early_fault c.of-layout.ensures) in
    let q = promised B (answered c.from_residual.result) (refused why) (λ i. omega (arith, c.type_inv.protocol i)) (rw (p.1, p.2) refl) e in
    record { is = q.is; drawn = q.drawn; only = q.only }

pub returns-in_err-check_order : goal.returns-in_err-check_order
returns-in_err-check_order c =
    let B = c.args.protocol.now in
    let why = c.in_err-check_order.field-0.0 in
    let drawn = c.in_ok-drawn.drawn in
    let p = err_from_is_err_and c.from_residual-in_err-check_order.result c.from_residual-in_err-check_order.ensures.1 in
    let e =
    verdict_late B (fault_passed _ c.in_ok-check_early.ensures ∙ ap early_fault c.of-layout.ensures) (ordered (drawing drawn)) (ap ordered (c.in_ok-drawn.ensures ∙ ap drawing_of c.of-layout.ensures)) (Some why)
    (rw (c.of-layout.ensures, c.as_ref.ensures.value) at (fault_refused why _ c.in_err-check_order.ensures)) in
    let q = promised B (answered c.from_residual-in_err-check_order.result) (refused why) (λ i. omega (arith, c.type_inv.protocol i)) (rw (p.1, p.2) refl) e in
    record { is = q.is; drawn = q.drawn; only = q.only }

pub returns : goal.returns
returns c =
    let B = c.args.protocol.now in
    let laid = c.of-layout.result.laid_out in
    let drawn = c.in_ok-drawn.drawn in
    let same = c.of-layout.ensures in
    let o : option_map vec_items c.map.result ≡ ordered (drawing drawn) = search rules in
    let e =
    verdict_accepted B (fault_passed _ c.in_ok-check_early.ensures ∙ ap early_fault same) (option_map vec_items c.map.result) (o ∙ ap ordered (c.in_ok-drawn.ensures ∙ ap drawing_of same))
    c.of-layout.result.name_count c.of-layout.result.party_count c.opened_count.result
    ((rw (same, c.as_ref.ensures.value) at (fault_passed _ c.in_ok-check_order.ensures)) ∙ (ap (λ (z : Option (List ℕ)). option_map (λ at. WrongOrder at) (order_fault B z)) (sym o)))
    (laid.names_are ∙ ap name_count same) (laid.parties_are ∙ ap party_count same) (c.opened_count.ensures ∙ ap opened_count same) in
    let q = promised B (Some _) _ (λ i. omega (arith, c.type_inv.protocol i)) refl e in
    record { is = q.is; drawn = q.drawn; only = q.only }
