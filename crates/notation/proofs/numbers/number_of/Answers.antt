use Rattle.std.proofs.Common.{rules, sym, ◌∙◌}
use Rattle.notation.proofs.Digits.{number_some, number_more, number_ends, number_all}
use Rattle.notation.proofs.numbers.number_of.Goals as goal

pub returns-in_err-number : goal.returns-in_err-number
returns-in_err-number c =
    c.from_residual.ensures
    ∙ number_ends c.args.digits.now c.loop-digit.digit-index c.loop-digit.number c.loop-digit.invariant (search rules) (sym c.in_err-number.was ∙ c.digit_more.ensures)
    ∙ number_some c.args.digits.now (search rules)

pub loop-digit-preserved : goal.loop-digit-preserved
loop-digit-preserved c = number_more c.args.digits.now c.loop-digit.digit-index c.loop-digit.number c.loop-digit.invariant (search rules) (sym c.in_ok-number.was ∙ c.digit_more.ensures)

pub returns : goal.returns
returns c = number_all c.args.digits.now c.loop-digit.digit-index c.loop-digit.number c.loop-digit.invariant (search rules) ∙ number_some c.args.digits.now (search rules)
