-- What stands in memory after writing. Assumes nothing.
use Rattle.std.specs.Prelude.{◌≡◌, ℕ, ◌<◌, ◌≤◌, List, length, take}
use Rattle.output.specs.Output.{put}

-- where the bytes fit, the memory begins with them, and the next place is behind them
abbrev pub Fitting : Type 0
Fitting = (m bytes : List ℕ) → length bytes ≤ length m → (take (length bytes) (put (m, 0) bytes).0 ≡ bytes) × ((put (m, 0) bytes).1 ≡ length bytes)

-- a next place before the end of the memory tells that all the bytes are there
abbrev pub Told : Type 0
Told = (m bytes : List ℕ) → (put (m, 0) bytes).1 < length m → (put (m, 0) bytes).1 ≡ length bytes
