use Rattle.std.proofs.Common.{arith}
use Rattle.notation.proofs.Whole.{shown_read}
use Rattle.notation.proofs.show.Goals as goal

pub returns-clause-again : goal.returns-clause-again
returns-clause-again c = shown_read c.args.file.now (λ i. omega (arith, c.type_inv.file i))
