use Rattle.std.proofs.Common.{◌≡◌, ◌*◌}
use Rattle.sha256.specs.Rounds.{rounds}
use Rattle.sha256.proofs.block.compress.Given as goal

abbrev pub invariant-loop-run : goal.invariant-loop-run
invariant-loop-run l = l.turned ≡ rounds (4 * l.run) l.words l.s
