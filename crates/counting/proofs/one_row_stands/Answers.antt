use Rattle.counting.proofs.Arrangements.{one_row_holds}
use Rattle.counting.proofs.one_row_stands.Goals as goal

pub returns : goal.returns
returns c = one_row_holds
