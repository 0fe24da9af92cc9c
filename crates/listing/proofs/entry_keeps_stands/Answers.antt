-- The contract is the law.
use Rattle.listing.proofs.Entry.{entry_keeps}
use Rattle.listing.proofs.entry_keeps_stands.Goals as goal

pub returns : goal.returns
returns c = entry_keeps
