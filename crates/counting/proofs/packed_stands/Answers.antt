use Rattle.counting.proofs.Bytes.{packed_holds}
use Rattle.counting.proofs.packed_stands.Goals as goal

pub returns : goal.returns
returns c = packed_holds
