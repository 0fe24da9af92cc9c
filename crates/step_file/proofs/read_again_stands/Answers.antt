use Rattle.step_file.proofs.Again.{read_again}
use Rattle.step_file.proofs.read_again_stands.Goals as goal

pub returns : goal.returns
returns c = read_again
