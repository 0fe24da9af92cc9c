-- The turns of the loop over the steps of a file. Assumes nothing.
use Rattle.std.proofs.Common.{◌≡◌, ℕ, ◌+◌, List, [], ◌∷◌, ◌++◌, Some, None, Option, sym, ap, ◌∙◌, append_assoc, append-nil}
use Rattle.refusals.specs.declared.Refusal.{Refusal}
use Rattle.ceremony.specs.Draws.{State, step}
use Rattle.step_file.specs.File.{file_steps, file_cut}
use Rattle.runs.specs.Runs.{after_steps, refusals_in, refused_at, line_of, refusal_lines}

-- what is left of a file, from a state that so many steps have led to, leads to the end that the whole file leads to
pub record Leads (file : List ℕ) (start : State) (first : List ℕ) (rest : List ℕ) (s : State) (lines : List ℕ) (before : ℕ) : Type 0 where
  pub state : after_steps s (file_steps rest) ≡ after_steps start (file_steps file)
  pub cut : file_cut rest ≡ file_cut file
  pub text : lines ++ refusal_lines (refusals_in s (before + 1) (file_steps rest)) ≡ first ++ refusal_lines (refusals_in start 1 (file_steps file))

module _ (file : List ℕ) (start : State) (first rest : List ℕ) (s : State) (lines : List ℕ) (before : ℕ) (i : Leads file start first rest s lines before) where
  -- no step is left
  pub ends : file_steps rest ≡ [] → (s ≡ after_steps start (file_steps file)) × (lines ≡ first ++ refusal_lines (refusals_in start 1 (file_steps file)))
  unfolding after_steps refusals_in
  ends e = (
    sym (ap (after_steps s) e) ∙ i.state,
    sym (append-nil lines) ∙ (sym (ap (λ (xs : List (ℕ × List ℕ)). lines ++ refusal_lines (refusals_in s (before + 1) xs)) e) ∙ i.text),
  )

  line_more : (n : ℕ) (r : Option Refusal) (more : List (ℕ × Refusal)) → (lines ++ line_of n r) ++ refusal_lines more ≡ lines ++ refusal_lines (refused_at n r more)
  line_more n None more = ap (λ (z : List ℕ). z ++ refusal_lines more) (append-nil lines)
  line_more n (Some why) more = append_assoc lines _ (refusal_lines more)

  -- one step more
  pub goes_on : (kind : ℕ) (x next : List ℕ) → file_steps rest ≡ (kind, x) ∷ file_steps next → file_cut rest ≡ file_cut next
      → (m n : ℕ) → m ≡ before → n ≡ before + 1 → (t : State) (more : List ℕ) → t ≡ (step s kind x).0 → more ≡ lines ++ line_of (m + 1) (step s kind x).1
      → Leads file start first next t more n
  unfolding after_steps refusals_in
  goes_on kind x next e c m n h k t more a b =
      let xs : List (ℕ × List ℕ) = file_steps next in
      record {
        state = ap (λ (q : State). after_steps q xs) a ∙ (sym (ap (after_steps s) e) ∙ i.state);
        cut = sym c ∙ i.cut;
        text =
            simp (a, b, h, k) (line_more (before + 1) (step s kind x).1 _ ∙ (sym (ap (λ (ys : List (ℕ × List ℕ)). lines ++ refusal_lines (refusals_in s (before + 1) ys)) e) ∙ i.text));
      }
