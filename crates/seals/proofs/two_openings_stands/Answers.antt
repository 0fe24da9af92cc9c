use Rattle.seals.proofs.Messages.{two_openings}
use Rattle.seals.proofs.two_openings_stands.Goals as goal

pub returns : goal.returns
returns c = two_openings
