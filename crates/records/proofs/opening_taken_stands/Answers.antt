use Rattle.records.proofs.Kept.{opening_taken}
use Rattle.records.proofs.opening_taken_stands.Goals as goal

pub returns : goal.returns
returns c = opening_taken
