use Rattle.std.proofs.Common.{arith}
use Rattle.std.proofs.lemmas.Grind.{common_steps}
use Rattle.seals.proofs.Pastes.{row_byte}
use Rattle.seals.proofs.Parties.add.Goals as goal

pub returns-clause-records : goal.returns-clause-records
returns-clause-records c = grind (arith, common_steps, row_byte)
