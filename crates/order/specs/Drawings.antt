-- What the drawing of an order answers, and what it leaves in the slice that it was lent. Assumes nothing: these are definitions.
use Rattle.std.specs.Prelude.{ℕ, zero, suc, ◌+◌, ◌-◌, ◌^◌, cond, List, ◌++◌, length, drop, Some, None, Option, min, nat_lt}
use Rattle.order.specs.Orders.{Order, some, none, order, written, order_names}
use Rattle.uniform.specs.Bits.{bits}
use Rattle.uniform.specs.Draws.{Drawn, got, out, draw}

-- of b bits, those that a number took, and those that are read after it
abbrev pub read_on : ℕ → (List ℕ → ℕ) → Drawn → ℕ
read_on b f (got k rest) = (b - length rest) + f rest
read_on b f out = 0

-- how many bits are read until there is an order of n names
unfoldable pub bits_read : ℕ → List ℕ → ℕ
bits_read zero bs = 0
bits_read (suc n) bs = read_on (length bs) (λ rest. bits_read n rest) (draw (suc (length bs)) (suc n) bs)

-- the names in order and how many bits were read; or the bits have run out
pub data Drawing : Type 0 where
  drawn : List ℕ → ℕ → Drawing
  run_out : Drawing

abbrev pub told : Order → ℕ → Drawing
told (some ns) used = drawn ns used
told none used = run_out

-- the drawing of these names from a row of bits
unfoldable pub drawing_of : List ℕ → List ℕ → Drawing
drawing_of ls bs = told (written ls (order (length ls) bs)) (bits_read (length ls) bs)

-- the drawing of the names 0 to n - 1
unfoldable pub drawn_from : ℕ → List ℕ → Drawing
drawn_from n bs = told (order_names n bs) (bits_read n bs)

-- the drawing of n names from the bits of bytes, from a place on. Places are numbers of 64 bits: bytes whose bits have no such place give no order
unfoldable pub drawn_order : ℕ → List ℕ → ℕ → Drawing
drawn_order n bytes from = cond (nat_lt (length bytes) (2 ^ 61)) (drawn_from n (drop from (bits bytes))) run_out

-- how many names a slice takes: one for each place, 65,535 at most; and the drawing of so many
abbrev pub names_in : List ℕ → ℕ
names_in here = min (length here) 65535

abbrev pub drawn_in : List ℕ → List ℕ → ℕ → Drawing
drawn_in here bytes from = drawn_order (names_in here) bytes from

-- the answer to a drawing: how many bits were read, or none where they have run out
abbrev pub outcome : Drawing → Option ℕ
outcome (drawn ns used) = Some used
outcome run_out = None

-- the place of the bit after those that were read from a place on
abbrev pub place_after : ℕ → Drawing → Option ℕ
place_after from (drawn ns used) = Some (from + used)
place_after from run_out = None

-- what stands in the slice: the names in order and what stood behind them, or what stood there
abbrev pub left_in : Drawing → List ℕ → List ℕ
left_in (drawn ns used) here = ns ++ drop (length ns) here
left_in run_out here = here
