use Rattle.records.proofs.Summed.{opening_summed}
use Rattle.records.proofs.opening_summed_stands.Goals as goal

pub returns : goal.returns
returns c = opening_summed
