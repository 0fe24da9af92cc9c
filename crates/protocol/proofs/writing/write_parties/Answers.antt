use Rattle.std.proofs.Common.{map, arith}
use Rattle.std.specs.List.{range_with_len}
use Rattle.std.proofs.lemmas.List.FromFn.{map-range_with_len_more}
use Rattle.protocol.specs.Finished.{party_left}
use Rattle.protocol.specs.Protocol.{written_party}
use Rattle.protocol.proofs.Writes.{joined_on}
use Rattle.protocol.proofs.writing.write_parties.Goals as goal

pub loop-party-preserved : goal.loop-party-preserved
loop-party-preserved c =
    let f = party_left c.args.records.now.bytes.now c.args.records.now.length in
    joined_on written_party _ _ _ (map f (range_with_len 0 c.loop-party.party)) _ (f c.loop-party.party) c.loop-party.invariant c.in_ok-write_party.ensures (map-range_with_len_more f 0 c.loop-party.party c.loop-party.party (omega arith))
