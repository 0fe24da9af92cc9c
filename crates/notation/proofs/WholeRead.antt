-- What a text writes is a file of steps. Assumes nothing.
use Rattle.std.proofs.Common.{◌≡◌, ℕ, ◌+◌, List, [], ◌∷◌, ◌++◌, refl, ap, ◌∙◌, arith}
use Rattle.step_file.specs.File.{step_bytes, file_of, file_steps, file_cut}
use Rattle.step_file.proofs.Again.{again}
use Rattle.notation.specs.Laws.{WholeRead}
use Rattle.notation.specs.Lines.{lines, without_return}
use Rattle.notation.specs.Meanings.{Meaning, nothing, step, file, bad, meaning}
use Rattle.notation.specs.Read.{filled, Answer, written, wrong, before, line_then, read_lines}

abbrev FromSteps : List ℕ → Type 0
FromSteps x = (ss : List (ℕ × List ℕ)) × (x ≡ file_of ss)

-- what is written before the rest
before_written : (v x : List ℕ) (a : Answer) → before v a ≡ written x → (y : List ℕ) × (a ≡ written y) × (x ≡ v ++ y)
before_written v x (written y) e = (y, refl, let h : x ≡ v ++ y = cc in h)
before_written v x (wrong n why) e = absurd (let z : ◌≡◌ {A = ℕ} 0 1 = cc in omega arith)

lines_whole : (ls : List (List ℕ)) (done : ℕ) (files : List (ℕ × List ℕ)) (x : List ℕ) → read_lines done ls files ≡ written x → FromSteps x
unfolding read_lines
lines_whole [] done files x e = ([], let h : x ≡ [] = cc in h)
lines_whole (l ∷ ls) done files x e = go (filled files (meaning (without_return l))) (λ left y h. lines_whole ls (done + 1) left y h) e
  where
    go : (m : Meaning × List (ℕ × List ℕ)) → ((left : List (ℕ × List ℕ)) (y : List ℕ) → read_lines (done + 1) ls left ≡ written y → FromSteps y)
        → line_then done (λ left. read_lines (done + 1) ls left) m ≡ written x → FromSteps x
    go (nothing, left) known h = known left x h
    go (step kind y, left) known h =
        let b = before_written (step_bytes (kind, y)) x (read_lines (done + 1) ls left) h in
        let f = known left b.0 b.1 in
        ((kind, y) ∷ f.0, b.2 ∙ ap (λ (z : List ℕ). step_bytes (kind, y) ++ z) f.1)
    go (file party path, left) known h = known left x h
    go (bad why, left) known h = absurd (let z : ◌≡◌ {A = ℕ} 0 1 = cc in omega arith)

pub whole_read : (text files : List ℕ) → WholeRead text files
whole_read text files x e = let f = lines_whole (lines text) 0 (file_steps files) x e in ap file_cut f.1 ∙ (again f.0).1
