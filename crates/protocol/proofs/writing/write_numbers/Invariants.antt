use Rattle.std.proofs.Common.{◌≡◌, ◌++◌, take, vec_items}
use Rattle.std.specs.List.{flat_map}
use Rattle.protocol.specs.Protocol.{word}
use Rattle.protocol.proofs.writing.write_numbers.Given as goal

abbrev pub invariant-loop-number : goal.invariant-loop-number
invariant-loop-number l = vec_items l.out ≡ vec_items l.initial.out ++ flat_map word (take l.number-index l.numbers)
