-- How many bits are used for the order of a protocol. Assumes nothing.
use Rattle.std.specs.Prelude.{ℕ, List, Some, None, Option}
use Rattle.refusals.specs.declared.Refusal.{Refusal}
use Rattle.order.specs.Drawings.{Drawing, drawn, run_out}
use Rattle.protocol.specs.Check.{early_fault, drawing_of}

-- how many bits were read, if an order was drawn
abbrev pub bits_read : Drawing → Option ℕ
bits_read (drawn ns used) = Some used
bits_read run_out = None

-- nothing is read where there is a fault before the order
abbrev pub read_unless : Option Refusal → Drawing → Option ℕ
read_unless None d = bits_read d
read_unless (Some why) d = None

-- how many bits of the opened parties' sum are used for the order that is drawn from it; none are told of a protocol that the first three passes refuse,
-- or where the bits run out
abbrev pub bits_used : List ℕ → Option ℕ
bits_used bytes = read_unless (early_fault bytes) (drawing_of bytes)
