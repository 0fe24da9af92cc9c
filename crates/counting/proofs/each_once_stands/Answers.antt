use Rattle.counting.proofs.Arrangements.{each_once_holds}
use Rattle.counting.proofs.each_once_stands.Goals as goal

pub returns : goal.returns
returns c = each_once_holds
