use Rattle.std.proofs.Common.{◌≡◌, ◌-◌, length}
use Rattle.notation.specs.Left.{named_left}
use Rattle.notation.proofs.paths.PathsIterator.next.Given as goal

abbrev pub invariant-loop-self : goal.invariant-loop-self
invariant-loop-self l = named_left l.self ≡ named_left l.fn.self

abbrev pub decreases-loop-self : goal.decreases-loop-self
decreases-loop-self l = length l.self.text.now - l.self.at
