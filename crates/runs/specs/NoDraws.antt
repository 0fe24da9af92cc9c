-- Why a file of steps ends without a draw, in words. Assumes nothing.
use Rattle.std.specs.Prelude.{ℕ, List, codes}
use Rattle.runs.specs.declared.no_draw.NoDraw.{NoDraw}
use Rattle.runs.specs.declared.no_draw.NoDraw.TheVariants.{Unfinished, Cut}

abbrev pub no_draw_words : NoDraw → List ℕ
no_draw_words Unfinished = codes "the steps end before the draw is closed"
no_draw_words Cut = codes "the file ends inside a step"
