-- Twice as much and one byte more each time, which memory does not hold for ever.
use Rattle.std.proofs.Common.{◌-◌, ◌^◌}
use Rattle.steps.proofs.written.Given as goal

abbrev pub decreases-loop-write : goal.decreases-loop-write
decreases-loop-write g l = 2 ^ 64 - l.lent
