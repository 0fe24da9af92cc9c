-- The bits of bytes: how many, from which byte on, and the number that they are. Assumes nothing.
use Rattle.std.proofs.Common.{◌≡◌, ℕ, zero, suc, ◌+◌, ◌*◌, ◌<◌, List, [], ◌∷◌, ◌++◌, length, drop, sym, refl, ap, ◌∙◌, arith, length-append}
use Rattle.std.proofs.lemmas.List.{drop_all, drop-drop}
use Rattle.uniform.specs.Bits.{byte_bits, bits, Bits}
use Rattle.uniform.specs.Draws.{number}

-- bits are 0 or 1, 8 a byte
pub bits_are : (bs : List ℕ) → Bits (bits bs)
unfolding bits Bits
bits_are [] i h = absurd (omega arith)
bits_are (b ∷ bs) zero h = omega arith
bits_are (b ∷ bs) (suc zero) h = omega arith
bits_are (b ∷ bs) (suc (suc zero)) h = omega arith
bits_are (b ∷ bs) (suc (suc (suc zero))) h = omega arith
bits_are (b ∷ bs) (suc (suc (suc (suc zero)))) h = omega arith
bits_are (b ∷ bs) (suc (suc (suc (suc (suc zero))))) h = omega arith
bits_are (b ∷ bs) (suc (suc (suc (suc (suc (suc zero)))))) h = omega arith
bits_are (b ∷ bs) (suc (suc (suc (suc (suc (suc (suc zero))))))) h = omega arith
bits_are (b ∷ bs) (suc (suc (suc (suc (suc (suc (suc (suc i)))))))) h = bits_are bs i (omega arith)

pub length_bits : (bs : List ℕ) → length (bits bs) ≡ 8 * length bs
unfolding bits
length_bits [] = refl
length_bits (b ∷ bs) = length-append (byte_bits b) (bits bs) ∙ omega (arith, length_bits bs)

-- the bits from bit r of byte q on
pub drop_bits : (q r : ℕ) (bs : List ℕ) → drop (8 * q + r) (bits bs) ≡ drop r (bits (drop q bs))
unfolding bits
drop_bits zero r bs = let e : 8 * 0 + r ≡ r = omega arith in rw e
drop_bits (suc q) r [] = drop_all (8 * suc q + r) [] (omega arith) ∙ sym (drop_all r [] (omega arith))
drop_bits (suc q) r (b ∷ bs) =
    let e : 8 * suc q + r ≡ 8 + (8 * q + r) = omega arith in
    ap (λ z. drop z (byte_bits b ++ bits bs)) e ∙ sym (drop-drop (8 * q + r) 8 (byte_bits b ++ bits bs)) ∙ drop_bits q r bs

-- a byte's bits are that byte, behind what is read so far
pub number_byte : (v b : ℕ) (rest : List ℕ) → b < 256 → number 8 v (byte_bits b ++ rest) ≡ v * 256 + b
unfolding number
number_byte v b rest h = omega arith
