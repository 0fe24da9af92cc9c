use Rattle.std.proofs.Common.{length}
use Rattle.order.proofs.+draw_rest.Given as goal

abbrev pub decreases-draw_rest : goal.decreases-draw_rest
decreases-draw_rest l = length l.order.now
