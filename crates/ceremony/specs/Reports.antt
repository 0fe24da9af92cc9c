-- What is told of a draw that has ended. Assumes nothing.
use Rattle.std.specs.Prelude.{ℕ, zero, suc, cond, List, [], ◌++◌, take, Some, None, Option}
use Rattle.seals.specs.Records.{has_opened, opened_count}
use Rattle.protocol.specs.Protocol.{Protocol}
use Rattle.protocol.specs.Finished.{protocol_of}
use Rattle.texts.specs.Lines.{summary_lines, left_out_line}
use Rattle.ceremony.specs.Model.{Ended}

-- the names in order, if there is an order
abbrev pub drawn_part : List ℕ → ℕ → Option ℕ → Option (List ℕ)
drawn_part order count (Some used) = Some (take count order)
drawn_part order count None = None

abbrev pub order_of : Ended → Option (List ℕ)
order_of e = drawn_part e.held.order e.list.count e.outcome

-- names, parties, openings and the order
abbrev pub summary_of : Ended → List ℕ
summary_of e = summary_lines e.list.count e.parties (opened_count e.held.seals e.list.length e.parties) (order_of e)

-- a line for each of the first n parties that has not opened
abbrev pub left_out_lines : List ℕ → ℕ → ℕ → List ℕ
left_out_lines seals len zero = []
left_out_lines seals len (suc n) = left_out_lines seals len n ++ cond (has_opened seals len n) [] (left_out_line n)

abbrev pub left_out_of : Ended → List ℕ
left_out_of e = left_out_lines e.held.seals e.list.length e.parties

-- the protocol of the draw
abbrev pub protocol_left : Ended → Protocol
protocol_left e = protocol_of e.held.slots e.held.index e.list.count e.list.length e.held.seals e.parties (order_of e)
