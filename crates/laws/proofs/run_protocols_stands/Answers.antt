use Rattle.laws.proofs.Protocols.{run_protocols}
use Rattle.laws.proofs.run_protocols_stands.Goals as goal

pub returns : goal.returns
returns c = run_protocols
