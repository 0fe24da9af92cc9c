-- What a writer does to an output. Assumes nothing.
use Rattle.std.specs.Prelude.{◌≡◌, ℕ, ◌<◌, List, length, take}
use Rattle.output.specs.Output.{put}
use Rattle.output.specs.declared.Output.{Output}

-- the bytes are put from the place on, and the next place is behind them, in the same memory as before
pub record Writes (old new : Output) (bytes : List ℕ) : Type 0 where
  pub same : new.memory.ghost_name ≡ old.memory.ghost_name
  pub written : (new.memory.now, new.at) ≡ put (old.memory.now, old.at) bytes

-- a text stands whole in an output: it was begun at the front of the memory, and ended before the end
pub record Whole (begun ended : Output) (text : List ℕ) : Type 0 where
  pub front : begun.at ≡ 0
  pub room : ended.at < length ended.memory.now
  pub stands : text ≡ take ended.at ended.memory.now
