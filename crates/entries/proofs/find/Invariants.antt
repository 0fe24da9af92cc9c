use Rattle.std.proofs.Common.{◌≡◌, ℕ, ◌-◌, ◌≤◌, map, length}
use Rattle.entries.specs.Rows.{name_in}
use Rattle.entries.specs.Place.{place, place_between}
use Rattle.entries.proofs.find.Given as goal

-- what is left to search gives the answer, with enough halvings
abbrev pub invariant-loop-low : goal.invariant-loop-low
invariant-loop-low l =
    (l.low ≤ l.high) × (l.high ≤ length l.numbers)
    × ((f : ℕ) × (l.high - l.low ≤ f)
    × (place_between f l.low l.high (map (name_in l.slots) l.numbers) l.name ≡ place (map (name_in l.slots) l.numbers) l.name))

abbrev pub decreases-loop-low : goal.decreases-loop-low
decreases-loop-low l = l.high - l.low
