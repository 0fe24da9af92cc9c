use Rattle.std.proofs.Common.{◌≡◌, ◌++◌, map, vec_items}
use Rattle.std.specs.List.{range_with_len, flat_map}
use Rattle.protocol.specs.Finished.{party_left}
use Rattle.protocol.specs.Protocol.{written_party}
use Rattle.protocol.proofs.writing.write_parties.Given as goal

abbrev pub invariant-loop-party : goal.invariant-loop-party
invariant-loop-party l = vec_items l.out ≡ vec_items l.initial.out ++ flat_map written_party (map (party_left l.records.bytes.now l.records.length) (range_with_len 0 l.party))
