use Rattle.notation.proofs.WholeRead.{whole_read}
use Rattle.notation.proofs.read.Goals as goal

pub returns-clause-whole : goal.returns-clause-whole
returns-clause-whole c = whole_read c.args.text.now c.args.files.now
