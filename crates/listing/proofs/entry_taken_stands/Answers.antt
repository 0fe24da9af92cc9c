-- The contract is the law.
use Rattle.listing.proofs.Entry.{entry_taken}
use Rattle.listing.proofs.entry_taken_stands.Goals as goal

pub returns : goal.returns
returns c = entry_taken
