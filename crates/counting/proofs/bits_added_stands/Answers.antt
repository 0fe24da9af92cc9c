use Rattle.counting.proofs.Bytes.{bits_added_holds}
use Rattle.counting.proofs.bits_added_stands.Goals as goal

pub returns : goal.returns
returns c = bits_added_holds
