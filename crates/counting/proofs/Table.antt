-- Small draws, by computation. Assumes nothing.
use Rattle.std.proofs.Common.{refl}
use Rattle.counting.specs.Counting.{count, same_row, is_order, is_none}
use Rattle.counting.specs.Table.{SmallDraws}
use Rattle.order.specs.Orders.{put, next, order, without, names, numbers_from, written, order_names}
use Rattle.uniform.specs.Draws.{width_from, width, number, draw}

pub small_draws_holds : SmallDraws
unfolding count is_order is_none same_row width_from width number draw put next order without names numbers_from written order_names
small_draws_holds = (refl, refl, refl, refl, refl)
