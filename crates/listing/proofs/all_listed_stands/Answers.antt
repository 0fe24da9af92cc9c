-- The contract is the law.
use Rattle.listing.proofs.Held.{all_listed}
use Rattle.listing.proofs.all_listed_stands.Goals as goal

pub returns : goal.returns
returns c = all_listed
