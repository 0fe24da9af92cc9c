use Rattle.counting.proofs.Bytes.{each_row_holds}
use Rattle.counting.proofs.each_row_stands.Goals as goal

pub returns : goal.returns
returns c = each_row_holds
