-- The protocol of a finished draw, from its memory: names in slots with their index, the parties' records, and the order if there is one. Assumes nothing.
use Rattle.std.specs.Prelude.{ℕ, cond, List, map, Some, None, Option}
use Rattle.std.specs.List.{range_with_len}
use Rattle.entries.specs.declared.Names.{Names}
use Rattle.entries.specs.Rows.{listed}
use Rattle.seals.specs.declared.Records.{Records}
use Rattle.seals.specs.Records.{seal_in, has_opened, opening_in}
use Rattle.protocol.specs.Protocol.{Party, Protocol}

-- party number k, from its record
abbrev pub party_left : List ℕ → ℕ → ℕ → Party
party_left seals L k = record { seal = seal_in seals L k; opening = cond (has_opened seals L k) (Some (opening_in seals L k)) None }

-- from the list, how many bytes each party puts in, the parties' records and their number, and the order if there is one
abbrev pub protocol_of : List ℕ → List ℕ → ℕ → ℕ → List ℕ → ℕ → Option (List ℕ) → Protocol
protocol_of slots index count L seals parties order =
    record {
      names = listed slots index count;
      bits_length = L;
      parties = map (party_left seals L) (range_with_len 0 parties);
      order = order;
    }

-- the same from the list and the records as they are read
abbrev pub protocol_held : Names → Records → Option (List ℕ) → Protocol
protocol_held names records order =
    protocol_of names.slots.now names.index.now names.count records.length records.bytes.now records.count order
