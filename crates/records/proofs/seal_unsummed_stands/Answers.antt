use Rattle.records.proofs.Summed.{seal_unsummed}
use Rattle.records.proofs.seal_unsummed_stands.Goals as goal

pub returns : goal.returns
returns c = seal_unsummed
