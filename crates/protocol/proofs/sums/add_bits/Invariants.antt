use Rattle.std.proofs.Common.{◌≡◌, map, length, drop}
use Rattle.std.specs.List.{range_with_len}
use Rattle.sum.specs.Sums.{sum_from}
use Rattle.protocol.specs.Layout.{party_of}
use Rattle.protocol.specs.Protocol.{openings}
use Rattle.protocol.proofs.sums.add_bits.Given as goal

abbrev pub invariant-loop-party : goal.invariant-loop-party
invariant-loop-party l = l.sum ≡ sum_from l.initial.sum (map (drop 32) (openings (map (party_of l.layout.bytes.now) (range_with_len 0 (length l.yielded)))))
