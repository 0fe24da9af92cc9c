use Rattle.std.proofs.Common.{◌-◌, ap, ◌∙◌, arith}
use lib.Count.{count_leading_zeros}
use Rattle.uniform.proofs.bit_width.Goals as goal
use Rattle.uniform.proofs.Widths.{width_counted}

pub returns-clause-is : goal.returns-clause-is
returns-clause-is c = ap (λ x. 16 - count_leading_zeros 16 x) c.saturating_sub.ensures ∙ width_counted c.args.n (omega arith)
