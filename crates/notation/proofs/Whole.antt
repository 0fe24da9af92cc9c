-- A whole file that is shown is read again. Assumes nothing.
use Rattle.std.proofs.Common.{◌≡◌, ℕ, zero, suc, ◌+◌, ◌/◌, ◌%◌, ◌<◌, ◌≤◌, Bool, true, false, cond, ltb, leb, List, [], ◌∷◌, ◌++◌, length, get_or, take, drop, sym, refl, ap, ◌∙◌, append_assoc, arith}
use Rattle.std.specs.List.{flat_map}
use Rattle.std.proofs.lemmas.List.{drop_more, drop-drop, length-drop, length-take-le, nil_from_length, take-append-drop}
use Rattle.std.proofs.lemmas.Bool.{leb-true, lt-ltb, ltb-false, true≢false}
use Rattle.step_file.specs.File.{more_steps, more_cut, file_steps, file_cut, step_bytes, file_of}
use Rattle.step_file.specs.Reading.{end, cut, step as found, length_of, first_step, Found}
use Rattle.step_file.proofs.Walk.{once}
use Rattle.notation.specs.Forms.{words}
use Rattle.notation.specs.declared.faults.Fault.TheVariants.{LongStep}
use Rattle.notation.specs.Laws.{AreBytes, ShownRead}
use Rattle.notation.specs.Lines.{lines, without_return}
use Rattle.notation.specs.Meanings.{step, bad, meaning}
use Rattle.notation.specs.Read.{filled, Answer, written, before, line_then, read_lines}
use Rattle.notation.specs.Shown.{form_shown, rest_shown, line_shown, text_of}
use Rattle.notation.proofs.Again.{bytes_take, bytes_drop, line_behind, no_return}
use Rattle.notation.proofs.Readback.{shown_right}

-- the steps of a file of bytes
abbrev Sound : List (ℕ × List ℕ) → Type 0
Sound [] = Unit {0}
Sound (s ∷ ss) = ((s.0 < 256) × AreBytes s.1 × (length s.1 < 65536)) × Sound ss

module _ (rest : List ℕ) (h : AreBytes rest) (l : 3 + length_of rest ≤ length rest) where
  size : length (take (length_of rest) (drop 3 rest)) ≡ length_of rest
  size = length-take-le (length_of rest) (drop 3 rest) (omega (arith, length-drop 3 rest))

  -- the bytes of its first step are at the head of the rest
  first_bytes : step_bytes (get_or rest 0 0, take (length_of rest) (drop 3 rest)) ++ drop (3 + length_of rest) rest ≡ rest
  first_bytes =
      let low : length (take (length_of rest) (drop 3 rest)) % 256 ≡ get_or rest 1 0 = omega (arith, size, h 1, h 2) in
      let high : length (take (length_of rest) (drop 3 rest)) / 256 ≡ get_or rest 2 0 = omega (arith, size, h 1, h 2) in
      let behind : drop (3 + length_of rest) rest ≡ drop (length_of rest) (drop 3 rest) = sym (drop-drop (length_of rest) 3 rest) in
      let three : rest ≡ get_or rest 0 0 ∷ get_or rest 1 0 ∷ get_or rest 2 0 ∷ drop 3 rest =
      drop_more rest 0 0 (omega arith) ∙ (ap (λ (z : List ℕ). get_or rest 0 0 ∷ z) (drop_more rest 1 0 (omega arith) ∙ ap (λ (z : List ℕ). get_or rest 1 0 ∷ z) (drop_more rest 2 0 (omega arith)))) in
      ap (λ (z : List ℕ). step_bytes (get_or rest 0 0, take (length_of rest) (drop 3 rest)) ++ z) behind
      ∙ (ap (λ (k : ℕ). get_or rest 0 0 ∷ k ∷ length (take (length_of rest) (drop 3 rest)) / 256 ∷ (take (length_of rest) (drop 3 rest) ++ drop (length_of rest) (drop 3 rest))) low
      ∙ (ap (λ (k : ℕ). get_or rest 0 0 ∷ get_or rest 1 0 ∷ k ∷ (take (length_of rest) (drop 3 rest) ++ drop (length_of rest) (drop 3 rest))) high
      ∙ (ap (λ (z : List ℕ). get_or rest 0 0 ∷ get_or rest 1 0 ∷ get_or rest 2 0 ∷ z) (take-append-drop (length_of rest) (drop 3 rest)) ∙ sym three)))

  first_sound : (get_or rest 0 0 < 256) × AreBytes (take (length_of rest) (drop 3 rest)) × (length (take (length_of rest) (drop 3 rest)) < 65536)
  first_sound = (h 0, bytes_take (length_of rest) (drop 3 rest) (bytes_drop 3 rest h), omega (arith, size, h 1, h 2))

-- what stands at the head of a file of bytes
abbrev Right : List ℕ → Found → Type 0
Right file end = file ≡ []
Right file cut = Unit {0}
Right file (found kind x rest) = ((kind < 256) × AreBytes x × (length x < 65536)) × AreBytes rest × (step_bytes (kind, x) ++ rest ≡ file) × (length rest < length file)

right : (file : List ℕ) → AreBytes file → Right file (first_step file)
right file h = go (ltb 0 (length file)) (leb (3 + length_of file) (length file)) refl refl
  where
    go : (a b : Bool) → ltb 0 (length file) ≡ a → leb (3 + length_of file) (length file) ≡ b
        → Right file (cond a (cond b (found (get_or file 0 0) (take (length_of file) (drop 3 file)) (drop (3 + length_of file) file)) cut) end)
    go false b s t = nil_from_length file (omega (arith, ltb-false 0 (length file) s))
    go true false s t = tt
    go true true s t =
        let w : 3 + length_of file ≤ length file = leb-true _ _ t in
        (first_sound file h w, bytes_drop (3 + length_of file) file h, first_bytes file h w, omega (arith, length-drop (3 + length_of file) file))

abbrev Again : List ℕ → Type 0
Again file = Sound (file_steps file) × (file_of (file_steps file) ≡ file)

module _ (file : List ℕ) (h : AreBytes file) (e : file_cut file ≡ false) (known : (r : List ℕ) → length r < length file → AreBytes r → file_cut r ≡ false → Again r) where
  by_first : (f : Found) → Right file f → (file_steps file ≡ more_steps (λ r. file_steps r) f) × (file_cut file ≡ more_cut (λ r. file_cut r) f) → Again file
  by_first end r o = rw o.0 (tt, sym r)
  by_first cut r o = absurd (true≢false (sym o.1 ∙ e))
  by_first (found kind x rest) r o =
      let i = known rest r.3 r.1 (sym o.1 ∙ e) in
      rw o.0 ((r.0, i.0), ap (λ (z : List ℕ). step_bytes (kind, x) ++ z) i.1 ∙ r.2)

-- a file of bytes that does not end inside a step is the file of its steps
steps_again : (n : ℕ) (file : List ℕ) → length file ≤ n → AreBytes file → file_cut file ≡ false → Again file
steps_again zero file l h e = by_first file h e (λ r s. absurd (omega arith)) (first_step file) (right file h) (once file)
steps_again (suc n) file l h e = by_first file h e (λ r s a b. steps_again n r (omega arith) a b) (first_step file) (right file h) (once file)

-- the lines of sound steps are read as the file of them
module _ (kind : ℕ) (x : List ℕ) (k : kind < 256) (h : AreBytes x) (l : length x < 65536) where
  line : List ℕ
  line = words (form_shown kind x) ++ rest_shown (form_shown kind x) kind x

  line_first : (rest : List ℕ) → lines (line_shown (kind, x) ++ rest) ≡ line ∷ lines rest
  unfolding line
  line_first rest =
      let ws = words (form_shown kind x) in
      let r = rest_shown (form_shown kind x) kind x in
      ap lines (append_assoc ws (r ++ (10 ∷ [])) rest ∙ (ap (λ (z : List ℕ). ws ++ z) (append_assoc r (10 ∷ []) rest) ∙ sym (append_assoc ws r (10 ∷ rest))))
      ∙ line_behind (ws ++ r) rest (shown_right kind x k h).1

  line_filled : filled [] (meaning (without_return line)) ≡ (step kind x, [])
  unfolding line
  line_filled =
      ap (λ (z : List ℕ). filled [] (meaning z)) (no_return line (shown_right kind x k h).1)
      ∙ (ap (filled []) (shown_right kind x k h).0 ∙ ap (λ (t : Bool). (cond t (step kind x) (bad LongStep), [])) (lt-ltb (length x) 65536 l))

  line_again : (done : ℕ) (rest : List ℕ) (answer : Answer) → read_lines (done + 1) (lines rest) [] ≡ answer
      → read_lines done (lines (line_shown (kind, x) ++ rest)) [] ≡ before (step_bytes (kind, x)) answer
  unfolding read_lines
  line_again done rest answer e =
      ap (λ (z : List (List ℕ)). read_lines done z []) (line_first rest)
      ∙ (ap (line_then done (λ a. read_lines (done + 1) (lines rest) a)) line_filled ∙ ap (before (step_bytes (kind, x))) e)

lines_again : (done : ℕ) (ss : List (ℕ × List ℕ)) → Sound ss → read_lines done (lines (flat_map line_shown ss)) [] ≡ written (file_of ss)
unfolding read_lines lines
lines_again done [] h = refl
lines_again done (s ∷ ss) h =
    line_again s.0 s.1 h.0.0 h.0.1 h.0.2 done (flat_map line_shown ss) (written (file_of ss)) (lines_again (done + 1) ss h.1)

pub shown_read : ShownRead
shown_read file h e =
    let a = steps_again (length file) file (omega arith) h e in
    ap (λ (fs : List (ℕ × List ℕ)). read_lines 0 (lines (text_of file)) fs) (once []).0 ∙ (lines_again 0 (file_steps file) a.0 ∙ ap written a.1)
