use Rattle.output.proofs.Hexes.{hex_more}
use Rattle.output.proofs.Writing.{writes_none, writes_then, writes_as}
use Rattle.output.specs.Hex.{hex}
use Rattle.output.proofs.Output.put_hex.Goals as goal

pub loop-byte-init : goal.loop-byte-init
unfolding hex
loop-byte-init c = writes_none _

pub loop-byte-preserved : goal.loop-byte-preserved
loop-byte-preserved c =
    let bytes = c.args.bytes.now in
    let i = c.loop-byte.byte-index in
    writes_as (cc (hex_more bytes i c.loop-byte-test.true, c.hex_digit.ensures, c.hex_digit-in-loop-byte.ensures))
    (writes_then c.loop-byte.invariant (writes_then c.put_byte.ensures c.put_byte-in-loop-byte.ensures))
