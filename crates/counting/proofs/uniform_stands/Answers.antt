use Rattle.counting.proofs.Uniform.{uniform_holds}
use Rattle.counting.proofs.uniform_stands.Goals as goal

pub returns : goal.returns
returns c = uniform_holds
