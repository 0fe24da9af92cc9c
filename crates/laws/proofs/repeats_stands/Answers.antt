use Rattle.laws.proofs.Repeats.{repeats}
use Rattle.laws.proofs.repeats_stands.Goals as goal

pub returns : goal.returns
returns c = repeats
