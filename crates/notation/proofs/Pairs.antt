-- Hexadecimal digits two by two. Assumes nothing.
use Rattle.std.proofs.Common.{◌≡◌, ℕ, suc, ◌/◌, ◌<◌, ◌≤◌, Bool, true, cond, List, [], ◌∷◌, length, map, take, drop, get_or, refl, ap, ◌∙◌, arith}
use Rattle.std.specs.Simd.{first_chunks}
use Rattle.notation.specs.declared.faults.Fault.TheVariants.{NoDigits, NoKind}
use Rattle.notation.specs.Hex.{are_pairs, pair_value, bytes_of}
use Rattle.notation.specs.Meanings.{step, bad, with_kind, any_step}

abbrev pub pair_byte : List ℕ → ℕ
pair_byte pair = pair_value (get_or pair 0 0) (get_or pair 1 0)

pub bytes_of_pairs : (ds : List ℕ) → map pair_byte (first_chunks 2 (length ds / 2) ds) ≡ bytes_of ds
unfolding bytes_of
bytes_of_pairs [] = refl
bytes_of_pairs (c ∷ []) = refl
bytes_of_pairs (c ∷ d ∷ ds) =
    let half : length (c ∷ d ∷ ds) / 2 ≡ suc (length ds / 2) = omega arith in
    ap (λ n. map pair_byte (first_chunks 2 n (c ∷ d ∷ ds))) half ∙ ap (λ bs. pair_value c d ∷ bs) (bytes_of_pairs ds)

pub length_bytes : (ds : List ℕ) → length (bytes_of ds) ≡ length ds / 2
unfolding bytes_of
length_bytes [] = refl
length_bytes (c ∷ []) = refl
length_bytes (c ∷ d ∷ ds) = omega (arith, length_bytes ds)

-- the digits of a whole step
bytes_few : (ds : List ℕ) → length ds < 2 → bytes_of ds ≡ []
unfolding bytes_of
bytes_few [] l = refl
bytes_few (c ∷ []) l = refl
bytes_few (c ∷ d ∷ ds) l = absurd (omega arith)

pub any_few : (ds : List ℕ) → are_pairs ds ≡ true → length ds < 2 → any_step ds ≡ bad NoKind
any_few ds p l = ap (λ (b : Bool). cond b (with_kind (bytes_of ds)) (bad NoDigits)) p ∙ ap with_kind (bytes_few ds l)

pub any_two : (ds : List ℕ) {pair rest : List ℕ} → are_pairs ds ≡ true → 2 ≤ length ds → pair ≡ take 2 ds → rest ≡ drop 2 ds → any_step ds ≡ step (pair_byte pair) (bytes_of rest)
unfolding bytes_of
any_two [] p l e f = absurd (omega arith)
any_two (c ∷ []) p l e f = absurd (omega arith)
any_two (c ∷ d ∷ ds) p l e f = ap (λ (b : Bool). cond b (with_kind (bytes_of (c ∷ d ∷ ds))) (bad NoDigits)) p ∙ rw (e, f) refl
