use Rattle.counting.proofs.FewHeads.{few_1400_holds}
use Rattle.counting.proofs.few_1400_stands.Goals as goal

pub returns : goal.returns
returns c = few_1400_holds
