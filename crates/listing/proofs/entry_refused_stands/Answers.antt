-- The contract is the law.
use Rattle.listing.proofs.Entry.{entry_refused}
use Rattle.listing.proofs.entry_refused_stands.Goals as goal

pub returns : goal.returns
returns c = entry_refused
