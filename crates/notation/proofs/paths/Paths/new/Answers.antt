use Rattle.notation.proofs.Named.{there}
use Rattle.notation.proofs.paths.Paths.new.Goals as goal

pub returns-clause-there : goal.returns-clause-there
returns-clause-there c = there c.args.text.now
