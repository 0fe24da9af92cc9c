-- What a run of a file tells. Assumes nothing.
use Rattle.std.specs.Prelude.{ℕ, Bool, true, false, List, [], vec_items, string_bytes, Ok, Err, Result}
use Rattle.ceremony.specs.Model.{Held, Ended, no_entries}
use Rattle.ceremony.specs.Draws.{State, listing, sealing, opening, ended}
use Rattle.ceremony.specs.Reports.{summary_of, left_out_of, protocol_left}
use Rattle.protocol.specs.Protocol.{written}
use Rattle.step_file.specs.File.{file_steps, file_cut}
use Rattle.runs.specs.declared.no_draw.NoDraw.{NoDraw}
use Rattle.runs.specs.declared.no_draw.NoDraw.TheVariants.{Unfinished as NotFinished, Cut as CutOff}
use Rattle.runs.specs.declared.report.Report.{Report}
use Rattle.runs.specs.declared.report.Finish.{Finish}
use Rattle.runs.specs.Rooms.{room_for}
use Rattle.runs.specs.Runs.{after_steps, refusals_in, refusal_lines}

-- how a file of steps ends: with a draw that is finished, without one, or inside a step
pub data Ending : Type 0 where
  Finished : Ending
  Unfinished : Ending
  Cut : Ending

-- a line for each refused step; of a finished draw the summary, the lines that name the parties left out and the protocol; and how the file ends
pub record Told : Type 0 where
  pub refusals : List ℕ
  pub summary : List ℕ
  pub left_out : List ℕ
  pub protocol : List ℕ
  pub ending : Ending

abbrev pub refusals_alone : List ℕ → Ending → Told
refusals_alone lines how = record { refusals = lines; summary = []; left_out = []; protocol = []; ending = how }

-- why there is no draw, as an ending
abbrev pub ending_of : NoDraw → Ending
ending_of NotFinished = Unfinished
ending_of CutOff = Cut

abbrev pub told : List ℕ → Result Finish NoDraw → Told
told lines (Ok f) = record { refusals = lines; summary = string_bytes f.summary; left_out = string_bytes f.left_out; protocol = vec_items f.protocol; ending = Finished }
told lines (Err why) = refusals_alone lines (ending_of why)

abbrev pub report : Report → Told
report r = told (string_bytes r.refusals) r.finish

-- the draw that a run ends with, if it does
abbrev pub end_of : Bool → State → Result Ended NoDraw
end_of true s = Err CutOff
end_of false (listing s) = Err NotFinished
end_of false (sealing s) = Err NotFinished
end_of false (opening s) = Err NotFinished
end_of false (ended e) = Ok e

abbrev pub told_end : List ℕ → Result Ended NoDraw → Told
told_end lines (Ok e) = record { refusals = lines; summary = summary_of e; left_out = left_out_of e; protocol = written (protocol_left e); ending = Finished }
told_end lines (Err why) = refusals_alone lines (ending_of why)

abbrev pub told_of : List ℕ → Bool → State → Told
told_of lines cut s = told_end lines (end_of cut s)

-- the memory of a draw of up to 2,000 names and 255 parties
abbrev pub zeros : Held
zeros = room_for 255

abbrev pub fresh : State
fresh = listing (no_entries zeros)

-- the run of a file from a state on, and what it tells
abbrev pub report_from : State → List ℕ → Told
report_from s file = told_of (refusal_lines (refusals_in s 1 (file_steps file))) (file_cut file) (after_steps s (file_steps file))

-- the run of a file
abbrev pub run_of : List ℕ → State
run_of file = after_steps fresh (file_steps file)

abbrev pub report_of : List ℕ → Told
report_of file = report_from fresh file
