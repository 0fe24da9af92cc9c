use Rattle.order.proofs.Turns.{order_valid}
use Rattle.counting.proofs.is_order_stands.Goals as goal

pub returns : goal.returns
returns c = order_valid
