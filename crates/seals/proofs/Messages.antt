-- The message that is sealed tells the opening. Assumes nothing.
use Rattle.std.proofs.Common.{◌≡◌, ℕ, List, ◌∷◌, ◌++◌, length, take, drop, sym, refl, ap, ◌∙◌}
use Rattle.std.proofs.lemmas.List.{take-append-drop, take_at, drop_at, append_cancel_left, length-take}
use Rattle.seals.specs.Seal.{sealed_message, seal_of, TwoOpenings}

message_tells : (context x y : List ℕ) (party : ℕ) → length x ≡ length y → sealed_message context party x ≡ sealed_message context party y → x ≡ y
message_tells context x y party l e =
    let k : ℕ = length (take 32 x) in
    let n : length (take 32 y) ≡ k = simp (length-take, l) in
    let a : take 32 x ≡ take 32 y = sym (take_at (take 32 x) _ k refl) ∙ (ap (take k) e ∙ take_at (take 32 y) _ k n) in
    let b : context ++ (party ∷ drop 32 x) ≡ context ++ (party ∷ drop 32 y) =
    sym (drop_at (take 32 x) _ k refl) ∙ (ap (drop k) e ∙ drop_at (take 32 y) _ k n) in
    let d : drop 32 x ≡ drop 32 y = ap (drop 1) (append_cancel_left context (party ∷ drop 32 x) (party ∷ drop 32 y) b) in
    cc (a, d, take-append-drop 32 x, take-append-drop 32 y)

pub two_openings : TwoOpenings
unfolding seal_of
two_openings context party x y l n e = (λ m. n (message_tells context x y party l m), e)
