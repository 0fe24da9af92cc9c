-- Bytes written over others one after the other. Assumes nothing.
use Rattle.std.proofs.Common.{◌≡◌, ℕ, ◌+◌, ◌<◌, List, [], ◌∷◌, ◌++◌, length, take, drop, set, sym, ap, ◌∙◌, arith}
use lib.Seq.{paste}
use Rattle.std.proofs.lemmas.List.{take_all, take_at, get_or_at, length-append}
use Rattle.std.proofs.lemmas.List.Edits.{paste_more}

-- a row, and then one byte
pub row_byte : (d s : List ℕ) (at n a : ℕ) → length s ≡ n → at + n < length d → set (paste d at s n) (at + n) a ≡ paste d at (s ++ a ∷ []) (n + 1)
row_byte d s at n a e h =
    let t : take n (s ++ a ∷ []) ≡ s = take_at s (a ∷ []) n e in
    let q : paste d at s n ≡ paste d at (s ++ a ∷ []) n =
    ap (λ (z : List ℕ). take at d ++ z ++ drop (at + n) d) (take_all n s (omega (arith, e)) ∙ sym t) in
    ap (λ (z : List ℕ). set z (at + n) a) q
    ∙ (ap (λ (v : ℕ). set (paste d at (s ++ a ∷ []) n) (at + n) v) (sym (get_or_at s a [] 0 n e))
    ∙ paste_more d at (s ++ a ∷ []) n 0 h (omega (arith, length-append s (a ∷ []))))
