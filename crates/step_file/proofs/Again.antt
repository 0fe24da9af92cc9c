-- A file that is written from steps reads as those steps. Assumes nothing.
use Rattle.std.proofs.Common.{◌≡◌, ℕ, ◌+◌, true, false, ltb, leb, List, [], ◌∷◌, ◌++◌, length, take, drop, refl, ap, ◌∙◌, arith}
use Rattle.std.proofs.lemmas.List.{length-append, take_at, drop_at}
use Rattle.std.proofs.lemmas.Bool.{lt-ltb, le-leb}
use Rattle.step_file.specs.Reading.{step, length_of, first_step}
use Rattle.step_file.specs.File.{file_steps, file_cut, step_bytes, file_of}
use Rattle.step_file.specs.Laws.{ReadAgain}
use Rattle.step_file.proofs.Walk.{once}

module _ (kind : ℕ) (x rest : List ℕ) where
  -- the length is read from its two bytes
  length_again : length_of (step_bytes (kind, x) ++ rest) ≡ length x
  length_again = omega arith

  -- the step at the head is the one that was written, and the rest stands behind it
  pub first_again : first_step (step_bytes (kind, x) ++ rest) ≡ step kind x rest
  first_again =
      let t : leb (3 + length x) (length (step_bytes (kind, x) ++ rest)) ≡ true = le-leb _ _ (omega (arith, length-append x rest)) in
      let some : ltb 0 (length (step_bytes (kind, x) ++ rest)) ≡ true = lt-ltb _ _ (omega arith) in
      let w : take (length x) (x ++ rest) ≡ x = take_at x rest (length x) refl in
      let v : drop (3 + length x) (step_bytes (kind, x) ++ rest) ≡ rest = drop_at (step_bytes (kind, x)) rest (3 + length x) (omega arith) in
      simp (some, length_again, t, w, v)

pub again : (ss : List (ℕ × List ℕ)) → (file_steps (file_of ss) ≡ ss) × (file_cut (file_of ss) ≡ false)
again [] = once []
again ((kind, x) ∷ ss) =
    let o = rw (first_again kind x (file_of ss)) at (once (file_of ((kind, x) ∷ ss))) in
    let e = again ss in
    (o.0 ∙ ap (λ (r : List (ℕ × List ℕ)). (kind, x) ∷ r) e.0, o.1 ∙ e.1)

pub read_again : ReadAgain
read_again ss h = again ss
