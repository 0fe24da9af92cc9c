-- Each line that is shown is read as the step that it shows. Assumes nothing.
use Rattle.std.proofs.Common.{◌≡◌, ℕ, zero, suc, ◌+◌, ◌*◌, ◌/◌, ◌%◌, ◌<◌, Bool, true, false, cond, ◌&&◌, eqb, ltb, leb, List, [], ◌∷◌, ◌++◌, length, Some, decimal, sym, refl, ap, ◌∙◌, subst, arith, lit<, lit≤}
use Rattle.std.proofs.lemmas.Bool.{and_from, and_parts, cond_both, eq-eqb, eqb-true, leb-true, ne_eqb, lt-ltb, ltb-true}
use Rattle.std.specs.Str.{is_utf8}
use Rattle.std.specs.List.{before_first, after_first}
use Rattle.names_text.specs.Laws.{NoLess}
use Rattle.names_text.specs.Text.{is_text}
use Rattle.names_text.proofs.OneLine.{one_line}
use Rattle.output.specs.Hex.{hex}
use Rattle.notation.specs.declared.forms.Form.{Form}
use Rattle.notation.specs.declared.forms.Form.TheVariants.{Entry, EntryHex, CloseList, Seal, CloseSeals, Opening, Close, StepHex}
use Rattle.notation.specs.declared.faults.Fault.TheVariants.{NoName, NoDigits, NoSeal, NoParty, NoOpening}
use Rattle.notation.specs.Forms.{words}
use Rattle.notation.specs.Hex.{are_pairs, bytes_of}
use Rattle.notation.specs.Laws.{AreBytes}
use Rattle.notation.specs.Meanings.{step, file, bad, hex_step, close_list, opened, opening, with_kind, meaning}
use Rattle.notation.specs.Numbers.{number}
use Rattle.notation.specs.Shown.{form_entry, form_shown, rest_shown}
use Rattle.notation.proofs.Again.{hex_length, hex_digits, hex_again, hex_pairs, hex_high, decimal_high, less_append, less_lower, number_decimal, split_behind}

-- a line is read as the step, and has no byte below 32
abbrev pub ShownRight : Form → ℕ → List ℕ → Type 0
ShownRight f kind x = (meaning (words f ++ rest_shown f kind x) ≡ step kind x) × NoLess 32 (words f ++ rest_shown f kind x)

choose : (t : Bool) (f g : Form) (kind : ℕ) (x : List ℕ) → (t ≡ true → ShownRight f kind x) → (t ≡ false → ShownRight g kind x) → ShownRight (cond t f g) kind x
choose t f g kind x p q = cond_both t f g (λ h. ShownRight h kind x) p q

abbrev all_high : List ℕ → Bool
all_high [] = true
all_high (b ∷ bs) = leb 32 b && all_high bs

high_by : (xs : List ℕ) → all_high xs ≡ true → NoLess 32 xs
high_by [] e = tt
high_by (b ∷ bs) e = let h = and_parts (leb 32 b) (all_high bs) e in (leb-true 32 b h.0, high_by bs h.1)

pub bytes_cons : (b : ℕ) (x : List ℕ) → b < 256 → AreBytes x → AreBytes (b ∷ x)
bytes_cons b x l h zero = l
bytes_cons b x l h (suc i) = h i

hex_32 : (x : List ℕ) → NoLess 32 (hex x)
hex_32 x = less_lower 32 48 (hex x) (lit≤ tt) (hex_high x)

hex_some : (x : List ℕ) → 0 < length x → eqb (length (hex x)) 0 ≡ false
hex_some x l = ne_eqb _ _ (λ e. omega (arith, hex_length x))

hex_step_again : (kind : ℕ) (x : List ℕ) → AreBytes x → hex_step kind (hex x) ≡ step kind x
hex_step_again kind x h = ap (λ (b : Bool). cond b (step kind (bytes_of (hex x))) (bad NoDigits)) (hex_pairs x h) ∙ ap (step kind) (hex_again x h)

-- step-hex HEX
any_right : (kind : ℕ) (x : List ℕ) → kind < 256 → AreBytes x → ShownRight StepHex kind x
any_right kind x k h = (
  ap (λ (b : Bool). cond b (with_kind (bytes_of (hex (kind ∷ x)))) (bad NoDigits)) (hex_pairs (kind ∷ x) (bytes_cons kind x k h)) ∙ ap with_kind (hex_again (kind ∷ x) (bytes_cons kind x k h)),
  less_append 32 (words StepHex) (hex (kind ∷ x)) (high_by (words StepHex) refl) (hex_32 (kind ∷ x)),
)

-- entry NAME, entry-hex HEX
text_some : (x : List ℕ) → is_text x ≡ true → 0 < length x
text_some x e = ltb-true _ _ (and_parts (is_utf8 x) (ltb 0 (length x)) (and_parts _ _ e).0).1

text_right : (x : List ℕ) → is_text x ≡ true → ShownRight Entry 1 x
text_right x e =
    let some : 0 < length x = text_some x e in
    (ap (λ (b : Bool). cond b (bad NoName) (step 1 x)) (ne_eqb _ _ (λ z. omega arith)), less_append 32 (words Entry) x (high_by (words Entry) refl) (one_line x e))

entry_hex_right : (x : List ℕ) → 0 < length x → AreBytes x → ShownRight EntryHex 1 x
entry_hex_right x l h =
    (ap (λ (b : Bool). cond b (bad NoName) (hex_step 1 (hex x))) (hex_some x l) ∙ hex_step_again 1 x h, less_append 32 (words EntryHex) (hex x) (high_by (words EntryHex) refl) (hex_32 x))

entry_right : (x : List ℕ) → AreBytes x → ShownRight (form_entry x) 1 x
entry_right x h =
    choose (is_text x) Entry _ 1 x (λ e. text_right x e)
    (λ e. choose (ltb 0 (length x)) EntryHex StepHex 1 x (λ l. entry_hex_right x (ltb-true _ _ l) h) (λ l. any_right 1 x (lit< tt) h))

-- close list L
close_list_right : (x : List ℕ) → length x ≡ 2 → AreBytes x → ShownRight CloseList 2 x
close_list_right [] l h = absurd (omega arith)
close_list_right (a ∷ []) l h = absurd (omega arith)
close_list_right (a ∷ b ∷ []) l h =
    let n = a + 256 * b in
    let low : a < 256 = h 0 in
    let high : b < 256 = h 1 in
    let small : n < 65536 = omega arith in
    let is_low : n % 256 ≡ a = omega arith in
    let is_high : n / 256 ≡ b = omega arith in (
      ap close_list (number_decimal n small) ∙ (ap (λ (k : ℕ). step 2 (k ∷ n / 256 ∷ [])) is_low ∙ ap (λ (k : ℕ). step 2 (a ∷ k ∷ [])) is_high),
      less_append 32 (words CloseList) (decimal n) (high_by (words CloseList) refl) (less_lower 32 48 (decimal n) (lit≤ tt) (decimal_high n (omega arith))),
    )
close_list_right (a ∷ b ∷ c ∷ x) l h = absurd (omega arith)

-- seal HEX
seal_right : (x : List ℕ) → length x ≡ 32 → AreBytes x → ShownRight Seal 3 x
seal_right x l h = (
  ap (λ (t : Bool). cond t (step 3 (bytes_of (hex x))) (bad NoSeal)) (and_from _ _ (eq-eqb (length (hex x)) 64 (omega (arith, hex_length x))) (hex_digits x h)) ∙ ap (step 3) (hex_again x h),
  less_append 32 (words Seal) (hex x) (high_by (words Seal) refl) (hex_32 x),
)

-- close seals, close
close_seals_right : (x : List ℕ) → length x ≡ 0 → ShownRight CloseSeals 4 x
close_seals_right [] l = (refl, high_by (words CloseSeals) refl)
close_seals_right (b ∷ x) l = absurd (omega arith)

close_right : (x : List ℕ) → length x ≡ 0 → ShownRight Close 6 x
close_right [] l = (refl, high_by (words Close) refl)
close_right (b ∷ x) l = absurd (omega arith)

-- opening P HEX
module _ (p : ℕ) (y : List ℕ) (small : p < 256) (some : 0 < length y) (h : AreBytes y) where
  parts : (before_first (λ b. eqb b 32) (decimal p ++ (32 ∷ hex y)) ≡ decimal p) × (after_first (λ b. eqb b 32) (decimal p ++ (32 ∷ hex y)) ≡ hex y)
  parts = split_behind 32 (decimal p) (hex y) (less_lower 33 48 (decimal p) (lit≤ tt) (decimal_high p (omega arith)))

  opened_again : opened p (hex y) ≡ step 5 (p ∷ y)
  opened_again =
      ap (λ (t : Bool). cond t (cond (are_pairs (hex y)) (step 5 (p ∷ bytes_of (hex y))) (bad NoDigits)) (file p (hex y))) (hex_digits y h)
      ∙ (ap (λ (t : Bool). cond t (step 5 (p ∷ bytes_of (hex y))) (bad NoDigits)) (hex_pairs y h) ∙ ap (λ (z : List ℕ). step 5 (p ∷ z)) (hex_again y h))

  opening_again : opening (Some p) (hex y) ≡ step 5 (p ∷ y)
  opening_again =
      ap (λ (t : Bool). cond t (cond (eqb (length (hex y)) 0) (bad NoOpening) (opened p (hex y))) (bad NoParty)) (lt-ltb p 256 small)
      ∙ (ap (λ (t : Bool). cond t (bad NoOpening) (opened p (hex y))) (hex_some y some) ∙ opened_again)

  pub opening_right_at : ShownRight Opening 5 (p ∷ y)
  opening_right_at = (
    ap (λ (z : List ℕ). opening (number z) (after_first (λ b. eqb b 32) (decimal p ++ (32 ∷ hex y)))) parts.0
        ∙ (ap (opening (number (decimal p))) parts.1 ∙ (ap (λ n. opening n (hex y)) (number_decimal p (omega arith)) ∙ opening_again)),
    less_append 32 (words Opening) (decimal p ++ (32 ∷ hex y)) (high_by (words Opening) refl)
        (less_append 32 (decimal p) (32 ∷ hex y) (less_lower 32 48 (decimal p) (lit≤ tt) (decimal_high p (omega arith))) (lit≤ tt, hex_32 y)),
  )

opening_right : (x : List ℕ) → 1 < length x → AreBytes x → ShownRight Opening 5 x
opening_right [] l h = absurd (omega arith)
opening_right (p ∷ y) l h = opening_right_at p y (h 0) (omega arith) (λ i. h (suc i))

-- a kind that is known
at_kind : (kind k : ℕ) (f : Form) (x : List ℕ) → eqb kind k ≡ true → ShownRight f k x → ShownRight f kind x
at_kind kind k f x e h = subst (λ (n : ℕ). ShownRight f n x) (sym (eqb-true kind k e)) h

pub shown_right : (kind : ℕ) (x : List ℕ) → kind < 256 → AreBytes x → ShownRight (form_shown kind x) kind x
shown_right kind x k h =
    choose (eqb kind 1) (form_entry x) _ kind x (λ e. at_kind kind 1 (form_entry x) x e (entry_right x h))
    (λ _. choose (eqb kind 2) _ _ kind x (λ e. choose (eqb (length x) 2) CloseList StepHex kind x (λ l. at_kind kind 2 CloseList x e (close_list_right x (eqb-true _ _ l) h)) any)
    (λ _. choose (eqb kind 3) _ _ kind x (λ e. choose (eqb (length x) 32) Seal StepHex kind x (λ l. at_kind kind 3 Seal x e (seal_right x (eqb-true _ _ l) h)) any)
    (λ _. choose (eqb kind 4) _ _ kind x (λ e. choose (eqb (length x) 0) CloseSeals StepHex kind x (λ l. at_kind kind 4 CloseSeals x e (close_seals_right x (eqb-true _ _ l))) any)
    (λ _. choose (eqb kind 5) _ _ kind x (λ e. choose (ltb 1 (length x)) Opening StepHex kind x (λ l. at_kind kind 5 Opening x e (opening_right x (ltb-true _ _ l) h)) any)
    (λ _. choose (eqb kind 6) _ StepHex kind x (λ e. choose (eqb (length x) 0) Close StepHex kind x (λ l. at_kind kind 6 Close x e (close_right x (eqb-true _ _ l))) any) any)))))
  where
    any : {t : Type 0} → t → ShownRight StepHex kind x
    any _ = any_right kind x k h
