-- The contract is the law.
use Rattle.listing.proofs.Runs.{one_list}
use Rattle.listing.proofs.one_list_stands.Goals as goal

pub returns : goal.returns
returns c = one_list
