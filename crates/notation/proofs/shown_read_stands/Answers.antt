use Rattle.notation.proofs.Whole.{shown_read}
use Rattle.notation.proofs.shown_read_stands.Goals as goal

pub returns : goal.returns
returns c = shown_read
