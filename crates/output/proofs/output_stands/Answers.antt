use Rattle.output.proofs.Puts.{fitting, told}
use Rattle.output.proofs.output_stands.Goals as goal

pub returns : goal.returns
returns c = record { fitting = fitting; told = told }
