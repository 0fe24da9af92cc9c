-- What the draw of a script's file prints. Assumes nothing.
use Rattle.std.proofs.Common.{◌≡◌, ℕ, Bool, false, List, [], ◌++◌, ap, ◌∙◌}
use Rattle.refusals.specs.declared.Refusal.{Refusal}
use Rattle.texts.specs.Lines.{summary_lines}
use Rattle.ceremony.specs.Model.{Ended}
use Rattle.ceremony.specs.Draws.{ended}
use Rattle.step_file.specs.File.{file_of, file_cut}
use Rattle.step_file.proofs.Again.{again}
use Rattle.runs.specs.Runs.{after_steps, refusals_in, refusal_lines}
use Rattle.runs.specs.Reports.{Told, fresh, told_of, report_of}
use Rattle.scripts.specs.Script.{script_steps}
use Rattle.scripts.specs.Fair.{PrintsWhole}
use Rattle.scripts.proofs.Whole.{runs_whole}

-- the report of a file whose steps are all taken and end the draw
pub reported : (ss : List (ℕ × List ℕ)) (e : Ended) → after_steps fresh ss ≡ ended e → refusals_in fresh 1 ss ≡ [] → report_of (file_of ss) ≡ told_of [] false (ended e)
reported ss e h k =
    let file : List ℕ = file_of ss in
    let a = again ss in
    ap (λ (xs : List (ℕ × List ℕ)). told_of (refusal_lines (refusals_in fresh 1 xs)) (file_cut file) (after_steps fresh xs)) a.0
    ∙ (ap (λ (b : Bool). told_of (refusal_lines (refusals_in fresh 1 ss)) b (after_steps fresh ss)) a.1
    ∙ (ap (λ (rs : List (ℕ × Refusal)). told_of (refusal_lines rs) false (after_steps fresh ss)) k ∙ ap (told_of [] false) h))

pub prints_whole : PrintsWhole
prints_whole s r =
    let w = runs_whole s r in
    let e = w.0 in
    let i = w.1 in
    ap (λ (t : Told). t.refusals ++ t.summary) (reported (script_steps s) e i.run i.none_refused)
    ∙ (λ k. summary_lines (i.names k) (i.parties k) (i.opened k) (i.order k))
