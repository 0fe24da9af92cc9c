-- The protocol that a draw writes is accepted. Assumes nothing.
use Rattle.std.proofs.Common.{◌≡◌, ℕ, Bool, true, false, List, refl, ap, ◌∙◌}
use Rattle.protocol.specs.Protocol.{written}
use Rattle.protocol.specs.Check.{verdict}
use Rattle.protocol.specs.Draws.{Bytes}
use Rattle.protocol.specs.Texts.{verdict_text, is_accepted}
use Rattle.protocol.proofs.AcceptsDrawn.{accepts_drawn}
use Rattle.ceremony.specs.Model.{Ended}
use Rattle.ceremony.specs.Reports.{summary_of, protocol_left}
use Rattle.ceremony.specs.Draws.{State, listing, sealing, opening, ended}
use Rattle.step_file.specs.File.{file_cut}
use Rattle.runs.specs.Reports.{Told, Finished, told_of, run_of}
use Rattle.laws.specs.Laws.{Repeats}
use Rattle.laws.proofs.Protocols.{run_protocols}

abbrev Repeated : Told → Type 0
Repeated t = (is_accepted (verdict t.protocol) ≡ true) × (verdict_text (verdict t.protocol) ≡ t.summary)

repeated : (file : List ℕ) → Bytes file → (e : Ended) → run_of file ≡ ended e
    → (is_accepted (verdict (written (protocol_left e))) ≡ true) × (verdict_text (verdict (written (protocol_left e))) ≡ summary_of e)
repeated file b e h =
    let p = run_protocols file e b h in
    let v = accepts_drawn (written (protocol_left e)) (verdict (written (protocol_left e))) refl (protocol_left e) p.0 refl in
    (ap is_accepted v, ap verdict_text v ∙ p.1)

pub repeats : Repeats
repeats file b = go _ (file_cut file) (run_of file) refl
  where
    go : (lines : List ℕ) (cut : Bool) (s : State) → run_of file ≡ s → (told_of lines cut s).ending ≡ Finished → Repeated (told_of lines cut s)
    go lines true s h e = absurd cc
    go lines false (listing s) h e = absurd cc
    go lines false (sealing s) h e = absurd cc
    go lines false (opening s) h e = absurd cc
    go lines false (ended s) h e = repeated file b s h
