use Rattle.counting.proofs.Table.{small_draws_holds}
use Rattle.counting.proofs.small_draws_stands.Goals as goal

pub returns : goal.returns
returns c = small_draws_holds
