-- What the drawing of an order promises. Each is a statement, whose proof a contract asks for. Assumes nothing.
use Rattle.std.specs.Prelude.{◌≡◌, ℕ, ◌<◌, ◌≤◌, List, ◌++◌, length, take}
use Rattle.order.specs.Drawings.{Drawing, drawn, run_out, drawn_from}
use Rattle.order.specs.Orders.{times}

-- an order holds each of the n names once
abbrev pub EachOnce : ℕ → Drawing → Type 0
EachOnce n (drawn ns used) = (length ns ≡ n) × ((x : ℕ) → x < n → times x ns ≡ 1)
EachOnce n run_out = Unit {0}

-- the bits that were read are among the row's, and give the order whatever stands behind them; with any fewer the bits run out
abbrev pub ExactlyRead : ℕ → List ℕ → Drawing → Type 0
ExactlyRead n bs (drawn ns used) =
    (used ≤ length bs)
    × ((more : List ℕ) → drawn_from n (take used bs ++ more) ≡ drawn ns used)
    × ((fewer : ℕ) → fewer < used → drawn_from n (take fewer bs) ≡ run_out)
ExactlyRead n bs run_out = Unit {0}
