-- The contract is the law.
use Rattle.listing.proofs.Entry.{entry_inserts}
use Rattle.listing.proofs.entry_inserts_stands.Goals as goal

pub returns : goal.returns
returns c = entry_inserts
