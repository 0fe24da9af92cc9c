-- The contract is the law.
use Rattle.listing.proofs.Held.{any_order}
use Rattle.listing.proofs.any_order_stands.Goals as goal

pub returns : goal.returns
returns c = any_order
