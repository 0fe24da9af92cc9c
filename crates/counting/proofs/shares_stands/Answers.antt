use Rattle.counting.proofs.Shares.{shares_holds}
use Rattle.counting.proofs.shares_stands.Goals as goal

pub returns : goal.returns
returns c = shares_holds
