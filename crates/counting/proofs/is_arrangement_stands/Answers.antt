use Rattle.counting.proofs.Arrangements.{is_arrangement_holds}
use Rattle.counting.proofs.is_arrangement_stands.Goals as goal

pub returns : goal.returns
returns c = is_arrangement_holds
