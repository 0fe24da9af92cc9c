-- Text is characters in UTF-8. Assumes nothing.
use Rattle.std.proofs.Common.{◌≡◌, ℕ, ◌<◌, Bool, true, false, not, ◌&&◌, ltb, List, [], ◌∷◌, length, Decides, sym, refl, ap, ◌∙◌, arith}
use Rattle.std.proofs.Math.Utf8.{scalar, scalars, encodes}
use Rattle.std.proofs.lemmas.Bool.{and_from, and_parts, ltb-true, lt-ltb}
use Rattle.std.proofs.lemmas.Bool.Decides.{nat_tests}
use Rattle.std.proofs.lemmas.Str.{chars-encodes, encodes-chars, scalars-chars, is_utf8-from_IsUtf8, IsUtf8-from_is_utf8, length-le-encodes}
use Rattle.std.specs.Char.{is_control}
use Rattle.std.specs.List.{list_any}
use Rattle.std.specs.Str.{IsUtf8, is_utf8, chars}
use Rattle.names_text.specs.Laws.{is_printed, are_printed, Characters}
use Rattle.names_text.specs.Text.{is_text}

pub text_of_utf8 : (bs : List ℕ) → IsUtf8 bs → is_text bs ≡ (ltb 0 (length bs) && not (list_any is_control (chars bs)))
text_of_utf8 bs u = simp (is_utf8-from_IsUtf8 bs u)

pub text_of_none : (bs : List ℕ) → (IsUtf8 bs → ⊥) → false ≡ is_text bs
text_of_none bs h = go (is_utf8 bs) refl
  where
    go : (b : Bool) → is_utf8 bs ≡ b → false ≡ (b && ltb 0 (length bs) && not (list_any is_control (chars bs)))
    go true e = absurd (h (IsUtf8-from_is_utf8 bs e))
    go false e = refl

-- characters are printed if none of them is a control character
printed : (c : ℕ) → scalar c ≡ true → is_printed c ≡ not (is_control c)
printed c e = grind (arith, nat_tests)

all_printed : (cs : List ℕ) → scalars cs ≡ true → are_printed cs ≡ not (list_any is_control cs)
all_printed [] e = refl
all_printed (c ∷ cs) e =
    let p = and_parts (scalar c) (scalars cs) e in
    let first = printed c p.0 in
    let others = all_printed cs p.1 in
    grind (arith, nat_tests)

printed_scalars : (cs : List ℕ) → are_printed cs ≡ true → scalars cs ≡ true
printed_scalars [] e = refl
printed_scalars (c ∷ cs) e =
    let p = and_parts (is_printed c) (are_printed cs) e in
    and_from _ _ (and_parts (scalar c) _ p.0).0 (printed_scalars cs p.1)

-- text is told from what is none
pub of_text : (bs : List ℕ) → is_text bs ≡ true → Characters bs
of_text bs e = go (chars bs) (encodes-chars bs utf8) (all_printed (chars bs) (scalars-chars bs utf8) ∙ q.1)
  where
    p : (is_utf8 bs && ltb 0 (length bs) ≡ true) × (not (list_any is_control (chars bs)) ≡ true)
    p = and_parts _ _ e

    q : (ltb 0 (length bs) ≡ true) × (not (list_any is_control (chars bs)) ≡ true)
    q = ((and_parts (is_utf8 bs) (ltb 0 (length bs)) p.0).1, p.1)

    utf8 : IsUtf8 bs
    utf8 = IsUtf8-from_is_utf8 bs (and_parts (is_utf8 bs) (ltb 0 (length bs)) p.0).0

    go : (cs : List ℕ) → encodes cs ≡ bs → are_printed cs ≡ true → Characters bs
    go [] h k = absurd (omega (arith, ltb-true 0 (length bs) q.0, ap length h))
    go (c ∷ cs) h k = (c, cs, k, h)

pub of_characters : (bs : List ℕ) → Characters bs → is_text bs ≡ true
of_characters bs (c, cs, e, h) =
    let s = printed_scalars (c ∷ cs) e in
    let spelled : chars bs ≡ c ∷ cs = rw (← h) (chars-encodes (c ∷ cs) s) in
    let some : 0 < length bs = omega (arith, length-le-encodes (c ∷ cs), ap length h) in
    and_from _ _ (and_from _ _ (is_utf8-from_IsUtf8 bs (c ∷ cs, (s, h))) (lt-ltb _ _ some)) (ap (λ (z : List ℕ). not (list_any is_control z)) spelled ∙ (sym (all_printed (c ∷ cs) s) ∙ e))

pub text_decided : (bs : List ℕ) (r : Bool) → r ≡ is_text bs → Decides r (Characters bs)
text_decided bs r e = (λ t. of_text bs (sym e ∙ t), λ h. e ∙ of_characters bs h)
