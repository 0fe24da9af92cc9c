use Rattle.names_text.proofs.OneLine.{one_line}
use Rattle.names_text.proofs.one_line_stands.Goals as goal

pub returns : goal.returns
returns c = one_line
