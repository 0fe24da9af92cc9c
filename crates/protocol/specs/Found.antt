-- The order that the code found, as the drawing that it stands for. Assumes nothing.
use Rattle.std.specs.Prelude.{Some, None, vec_items, Option}
use Rattle.order.specs.Drawings.{Drawing, drawn, run_out}
use Rattle.protocol.specs.declared.orders.Drawn.{Drawn}

abbrev pub drawing : Option Drawn → Drawing
drawing (Some d) = drawn (vec_items d.order) d.used
drawing None = run_out
