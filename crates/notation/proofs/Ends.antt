-- The path that a line names ends the line. Assumes nothing.
use Rattle.std.proofs.Common.{◌≡◌, ℕ, ◌+◌, ◌≤◌, Bool, false, cond, eqb, ltb, List, [], ◌∷◌, length, drop, Some, None, Option, sym, refl, ap, ◌∙◌, subst, ⊎_elim, arith}
use Rattle.std.proofs.lemmas.List.{drop-drop, length-drop}
use Rattle.std.proofs.lemmas.Bool.{cases_lt, cond_both, eqb-false}
use Rattle.std.specs.List.{position_or_len, before_first}
use Rattle.notation.specs.declared.faults.Fault.TheVariants.{NoForm, NoName, NoDigits, NoSeal, NoParty, NoOpening}
use Rattle.notation.specs.declared.forms.Form.{Form}
use Rattle.notation.specs.declared.forms.Form.TheVariants.{Entry, EntryHex, CloseList, Seal, CloseSeals, Opening, Close, StepHex}
use Rattle.notation.specs.Forms.{form_of}
use Rattle.notation.specs.Hex.{all_digits, are_pairs, bytes_of}
use Rattle.notation.specs.Meanings.{Meaning, nothing, step, file, bad, hex_step, close_list, opened, opening, with_kind, form_read, meaning}
use Rattle.notation.specs.Numbers.{number}
use Rattle.notation.specs.Paths.{named, path_of}

abbrev Ends : List ℕ → Meaning → Type 0
Ends line nothing = Unit {0}
Ends line (step kind x) = Unit {0}
Ends line (file party path) = (j : ℕ) × (path ≡ drop j line) × (j ≤ length line)
Ends line (bad why) = Unit {0}

module _ (line : List ℕ) where
  either : (t : Bool) (m n : Meaning) → Ends line m → Ends line n → Ends line (cond t m n)
  either t m n p q = cond_both t m n (Ends line) (λ _. p) (λ _. q)

  hex_ends : (kind : ℕ) (ds : List ℕ) → Ends line (hex_step kind ds)
  hex_ends kind ds = either (are_pairs ds) (step kind (bytes_of ds)) (bad NoDigits) tt tt

  kind_ends : (x : List ℕ) → Ends line (with_kind x)
  kind_ends [] = tt
  kind_ends (kind ∷ x) = tt

  list_ends : (n : Option ℕ) → Ends line (close_list n)
  list_ends None = tt
  list_ends (Some n) = tt

  opened_ends : (party j : ℕ) → j ≤ length line → Ends line (opened party (drop j line))
  opened_ends party j l =
      either (all_digits (drop j line)) _ (file party (drop j line)) (either (are_pairs (drop j line)) (step 5 (party ∷ bytes_of (drop j line))) (bad NoDigits) tt tt) (j, refl, l)

  -- where there is a word at all, it is within the line
  opening_ends : (party : Option ℕ) (j : ℕ) (word : List ℕ) → word ≡ drop j line → Ends line (opening party word)
  opening_ends None j word e = tt
  opening_ends (Some party) j word e =
      either (ltb party 256) _ (bad NoParty)
      (cond_both (eqb (length word) 0) (bad NoOpening) (opened party word) (Ends line) (λ _. tt)
      (λ f. subst (λ (z : List ℕ). Ends line (opened party z)) (sym e) (opened_ends party j (within f)))) tt
    where
      within : eqb (length word) 0 ≡ false → j ≤ length line
      within f = ⊎_elim (λ l. absurd (eqb-false (length word) 0 f (omega (arith, ap length e, length-drop j line)))) (λ l. l) (cases_lt (length line) j)

  by_form : (f : Option Form) → Ends line (form_read f line)
  by_form None = tt
  by_form (Some Entry) = either (eqb (length (drop 6 line)) 0) (bad NoName) (step 1 (drop 6 line)) tt tt
  by_form (Some EntryHex) = either (eqb (length (drop 10 line)) 0) (bad NoName) (hex_step 1 (drop 10 line)) tt (hex_ends 1 (drop 10 line))
  by_form (Some CloseList) = list_ends (number (drop 11 line))
  by_form (Some Seal) = either _ (step 3 (bytes_of (drop 5 line))) (bad NoSeal) tt tt
  by_form (Some CloseSeals) = either (eqb (length (drop 11 line)) 0) (step 4 []) (bad NoForm) tt tt
  by_form (Some Opening) =
      let k = position_or_len (λ b. eqb b 32) (drop 8 line) in
      opening_ends (number (before_first (λ b. eqb b 32) (drop 8 line))) (8 + (k + 1)) (drop (k + 1) (drop 8 line)) (drop-drop (k + 1) 8 line)
  by_form (Some Close) = either (eqb (length (drop 5 line)) 0) (step 6 []) (bad NoForm) tt tt
  by_form (Some StepHex) = either (are_pairs (drop 9 line)) (with_kind (bytes_of (drop 9 line))) (bad NoDigits) (kind_ends (bytes_of (drop 9 line))) tt

  line_ends : Ends line (meaning line)
  line_ends = either _ nothing _ tt (by_form (form_of line))

  -- a path that the line names, with the party that opens
  pub path_ends : (path : List ℕ) → path_of line ≡ Some path
      → ((j : ℕ) × (path ≡ drop j line) × (j ≤ length line)) × (party : ℕ) × (meaning line ≡ file party path)
  path_ends path = go (meaning line) line_ends
    where
      go : (m : Meaning) → Ends line m → named m ≡ Some path → ((j : ℕ) × (path ≡ drop j line) × (j ≤ length line)) × (party : ℕ) × (m ≡ file party path)
      go nothing h e = absurd (let z : ◌≡◌ {A = ℕ} 0 1 = cc in omega arith)
      go (step kind x) h e = absurd (let z : ◌≡◌ {A = ℕ} 0 1 = cc in omega arith)
      go (file party found) h e = let same : found ≡ path = cc in ((h.0, sym same ∙ h.1, h.2), party, ap (file party) same)
      go (bad why) h e = absurd (let z : ◌≡◌ {A = ℕ} 0 1 = cc in omega arith)
