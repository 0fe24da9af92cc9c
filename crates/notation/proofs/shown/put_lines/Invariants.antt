use Rattle.std.proofs.Common.{◌≡◌}
use Rattle.std.specs.List.{flat_map}
use Rattle.output.proofs.Writing.{Underway}
use Rattle.step_file.specs.File.{file_steps, file_cut}
use Rattle.notation.specs.Shown.{line_shown, text_of}
use Rattle.notation.proofs.shown.put_lines.Given as goal

abbrev pub invariant-loop-step : goal.invariant-loop-step
invariant-loop-step l =
    Underway l.initial.out l.out (text_of l.file) (flat_map line_shown (file_steps l.step-iterator.rest.now)) × (file_cut l.step-iterator.rest.now ≡ file_cut l.file)
