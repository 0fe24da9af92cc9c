use Rattle.std.proofs.Common.{arith}
use Rattle.uniform.proofs.read.Goals as goal
use Rattle.uniform.proofs.Reading.{read_is}

pub returns : goal.returns
returns c = (
  omega arith,
  read_is c.args.bytes.now c.args.at c.args.w c.byte_at.result c.byte_at-2.result c.byte_at-3.result c.from_be_bytes-three.result
      c.from_be_bytes-three.ensures c.byte_at.ensures c.byte_at-2.ensures c.byte_at-3.ensures
      (omega arith) (omega arith) (omega arith) c.requires.few (omega arith),
)
