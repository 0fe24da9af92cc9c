-- The padding goes by the length modulo 2 ^ 64.
-- Assumes nothing.
use Rattle.std.proofs.Common.{◌≡◌, ℕ, ◌-◌, ◌*◌, ◌%◌, ◌^◌, ◌∷◌, ◌++◌, replicate, ap, ◌∙◌, arith}
use Rattle.sha256.specs.Padding.{eight_bytes, zeros, padding}

pub padding_mod : (n : ℕ) → padding (n % 2 ^ 64) ≡ padding n
unfolding padding
padding_mod n =
    let fill : n % 2 ^ 64 % 64 ≡ n % 64 = omega arith in
    let bits : 8 * (n % 2 ^ 64) % 2 ^ 64 ≡ 8 * n % 2 ^ 64 = omega arith in
    ap (λ (i : ℕ). 128 ∷ replicate ((119 - i) % 64) 0 ++ eight_bytes (8 * (n % 2 ^ 64) % 2 ^ 64)) fill
    ∙ ap (λ (x : ℕ). 128 ∷ replicate (zeros n) 0 ++ eight_bytes x) bits
