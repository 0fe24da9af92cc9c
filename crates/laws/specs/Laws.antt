-- The laws of every run. Each is a statement whose proof a function's contract demands. Assumes nothing.
use Rattle.std.specs.Prelude.{◌≡◌, ℕ, ◌<◌, true, List, length, take, Some, ◌≢◌, slice_index}
use Rattle.refusals.specs.declared.Refusal.{Refusal}
use Rattle.ceremony.specs.Model.{Ended}
use Rattle.ceremony.specs.Reports.{order_of, summary_of, protocol_left}
use Rattle.protocol.specs.Draws.{Bytes, OfDraw, acceptance}
use Rattle.protocol.specs.Check.{verdict}
use Rattle.protocol.specs.Texts.{verdict_text, is_accepted}
use Rattle.ceremony.specs.Draws.{State, ended, step}
use Rattle.records.specs.Records.{opened_rows}
use Rattle.sum.specs.Sums.{sum_of}
use Rattle.texts.specs.Lines.{order_words}
use Rattle.step_file.specs.File.{file_steps}
use Rattle.runs.specs.Reports.{Finished, fresh, run_of, report_of}
use Rattle.laws.specs.Taken.{taken_kinds}
use Rattle.laws.specs.Sound.{SoundState}

-- a refused step changes nothing at all, in no phase and no memory
abbrev pub RefusedUnchanged : Type 0
RefusedUnchanged = (s : State) (kind : ℕ) (x : List ℕ) (why : Refusal) → (step s kind x).1 ≡ Some why → (step s kind x).0 ≡ s

-- SEALED FIRST: in the run of every file no seal (kind 3) is taken after an opening (kind 5) was taken
abbrev pub SealedFirst : Type 0
SealedFirst =
    (file : List ℕ) (i j : ℕ) → i < j → j < length (taken_kinds fresh (file_steps file)) →
    slice_index (taken_kinds fresh (file_steps file)) i ≡ 5 → slice_index (taken_kinds fresh (file_steps file)) j ≢ 3

-- every run of every file leaves a sound state: names sorted, each opening giving its seal, the bits the sum of exactly the openings taken, and at the end the
-- order that is drawn from them
abbrev pub RunsSound : Type 0
RunsSound = (file : List ℕ) → SoundState (run_of file)

-- THE SUM: the order of a run that ends is drawn from the exclusive-or of the bits of exactly the parties that opened
abbrev pub SumOfOpenings : Type 0
SumOfOpenings =
    (file : List ℕ) (e : Ended) → run_of file ≡ ended e →
    take e.list.length e.held.bits ≡ sum_of e.list.length (opened_rows e.held.seals e.list.length e.parties)

-- INDEPENDENCE: two files whose runs end with the same number of names and the same sum print the same order, whatever the names, seals and openings, and in
-- whatever order the openings came
abbrev pub Independence : Type 0
Independence =
    (file file' : List ℕ) (e e' : Ended) → run_of file ≡ ended e → run_of file' ≡ ended e' → e.list.count ≡ e'.list.count →
    take e.list.length e.held.bits ≡ take e'.list.length e'.held.bits → order_words (order_of e) ≡ order_words (order_of e')

-- EVERY RUN'S PROTOCOL: the protocol of every file of bytes whose run ends is the protocol of a draw, and what a check tells of such a protocol is what the
-- draw printed
abbrev pub RunProtocols : Type 0
RunProtocols =
    (file : List ℕ) (e : Ended) → Bytes file → run_of file ≡ ended e → OfDraw (protocol_left e) × (verdict_text (acceptance (protocol_left e)) ≡ summary_of e)

-- REPEATS: whatever file of bytes ends with a draw, the protocol that is written is accepted, and repeating it prints what the draw printed
abbrev pub Repeats : Type 0
Repeats =
    (file : List ℕ) → Bytes file → (report_of file).ending ≡ Finished →
    (is_accepted (verdict (report_of file).protocol) ≡ true) × (verdict_text (verdict (report_of file).protocol) ≡ (report_of file).summary)
