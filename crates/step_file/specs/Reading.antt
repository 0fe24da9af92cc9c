-- A file of steps: each step is one byte for its kind, two bytes of length, low byte first, and its bytes. Assumes nothing.
use Rattle.std.specs.Prelude.{ℕ, ◌+◌, ◌*◌, cond, List, length, take, drop, Some, None, Option, Ok, Err, Result, nat_le, nat_lt, slice_index}
use Rattle.std.specs.Borrow.{Bor}
use Rattle.step_file.specs.declared.CutShort.{CutShort}
use Rattle.step_file.specs.declared.Step.{Step}

-- what stands at the head of a file: no more bytes, a step that is cut short, or a step by its kind and its bytes, and the
-- rest of the file behind it
pub data Found : Type 0 where
  end : Found
  cut : Found
  step : ℕ → List ℕ → List ℕ → Found

abbrev pub reading : Result (Option (Step × Bor (List ℕ))) CutShort → Found
reading (Ok None) = end
reading (Ok (Some p)) = step p.0.kind p.0.bytes.now p.1.now
reading (Err e) = cut

-- the two bytes of a length, low byte first
abbrev pub length_of : List ℕ → ℕ
length_of file = slice_index file 1 + 256 * slice_index file 2

abbrev pub first_step : List ℕ → Found
first_step file =
    cond (nat_lt 0 (length file))
    (cond (nat_le (3 + length_of file) (length file)) (step (slice_index file 0) (take (length_of file) (drop 3 file)) (drop (3 + length_of file) file)) cut)
    end
