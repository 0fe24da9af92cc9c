use Rattle.order.proofs.Used.{kept_holds}
use Rattle.counting.proofs.kept_stands.Goals as goal

pub returns : goal.returns
returns c = kept_holds
