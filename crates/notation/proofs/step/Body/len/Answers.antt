use Rattle.std.proofs.Common.{length, sym, ap, ◌∙◌}
use Rattle.notation.specs.Steps.{body_bytes}
use Rattle.notation.proofs.Pairs.{length_bytes}
use Rattle.notation.proofs.step.Body.len.Goals as goal

pub returns-in-Digits-clause-is : goal.returns-in-Digits-clause-is
returns-in-Digits-clause-is c = sym (length_bytes c.in-Digits.digits.now) ∙ ap (λ b. length (body_bytes b)) (sym c.in-Digits.is)
