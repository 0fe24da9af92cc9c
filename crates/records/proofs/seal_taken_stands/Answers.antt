use Rattle.records.proofs.Kept.{seal_taken}
use Rattle.records.proofs.seal_taken_stands.Goals as goal

pub returns : goal.returns
returns c = seal_taken
