use Rattle.std.proofs.Common.{arith}
use Rattle.order.proofs.Numbering.{number_next, all_numbered}
use Rattle.order.proofs.number.Goals as goal

pub loop-i-preserved : goal.loop-i-preserved
loop-i-preserved c = number_next c.loop-i.i c.args.names.now c.loop-i.names (omega arith) c.loop-i.invariant

pub returns : goal.returns
returns c = all_numbered c.loop-i.i c.args.names.now c.loop-i.names (omega arith) c.loop-i.invariant
