use Rattle.sum.proofs.any_order_stands.Goals as goal
use Rattle.sum.proofs.Sums.{any_order_holds}

pub returns : goal.returns
returns c = any_order_holds
