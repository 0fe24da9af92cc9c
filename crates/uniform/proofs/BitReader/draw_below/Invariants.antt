use Rattle.std.proofs.Common.{◌≡◌, ℕ, suc, ◌-◌, ◌*◌, ◌<◌, ◌≤◌, length, drop}
use Rattle.uniform.proofs.BitReader.draw_below.Given as goal
use Rattle.uniform.specs.Bits.{bits}
use Rattle.uniform.specs.Draws.{draw}

-- the place is one from the reader's on with bits behind it, or the reader's; and what is left gives the answer, in enough steps
abbrev pub invariant-loop-value : goal.invariant-loop-value
invariant-loop-value l =
    (l.self ≡ l.initial.self)
    × (l.self.at ≤ l.at)
    × (l.at - l.self.at ≤ 8 * length l.self.bytes.now - l.self.at)
    × ((f : ℕ) × (8 * length l.self.bytes.now - l.at < f)
    × (draw f l.n (drop l.at (bits l.self.bytes.now)) ≡ draw (suc (length (drop l.self.at (bits l.self.bytes.now)))) l.n (drop l.self.at (bits l.self.bytes.now))))

abbrev pub decreases-loop-value : goal.decreases-loop-value
decreases-loop-value l = 8 * length l.self.bytes.now - l.at
