-- The contract is the law.
use Rattle.listing.proofs.Entry.{entry_needs}
use Rattle.listing.proofs.entry_needs_stands.Goals as goal

pub returns : goal.returns
returns c = entry_needs
