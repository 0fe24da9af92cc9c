-- The contract is the law.
use Rattle.listing.proofs.Search.{place_found}
use Rattle.listing.proofs.place_found_stands.Goals as goal

pub returns : goal.returns
returns c = place_found
