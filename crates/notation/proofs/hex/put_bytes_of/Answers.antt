use Rattle.std.proofs.Common.{◌≡◌, [], map, get_or, ap, ◌∙◌}
use Rattle.std.proofs.lemmas.List.{drop_more, drop_all}
use Rattle.output.proofs.Writing.{underway_turn, underway_done, writes_as}
use Rattle.notation.proofs.Pairs.{pair_byte, bytes_of_pairs}
use Rattle.notation.proofs.hex.put_bytes_of.Goals as goal

pub loop-high-preserved : goal.loop-high-preserved
loop-high-preserved c =
    let pairs = c.as_chunks.result.0.now in
    let byte : c.pair_value.result ≡ pair_byte (get_or pairs c.loop-high.high-index []) = c.pair_value.ensures in
    let next = ap (map pair_byte) (drop_more pairs c.loop-high.high-index [] c.loop-high-test.true) in
    underway_turn (rw (← byte) at next) c.loop-high.invariant c.put_byte.ensures

pub returns : goal.returns
returns c =
    let pairs = c.as_chunks.result.0.now in
    writes_as (ap (map pair_byte) c.as_chunks.ensures.front ∙ bytes_of_pairs c.args.digits.now)
    (underway_done (ap (map pair_byte) (drop_all c.loop-high.high-index pairs c.loop-high-test.false)) c.loop-high.invariant)
