-- The bits of bytes: adding is the sum of the bytes, and rows of 8 * L bits are rows of L bytes. Assumes nothing.
use lib.Bits.{bit_xor}
use Rattle.std.proofs.Common.{◌≡◌, ℕ, zero, suc, ◌*◌, ◌/◌, ◌%◌, ◌^◌, ◌<◌, List, [], ◌∷◌, ◌++◌, length, refl, ap, ◌∙◌, ap₂, arith}
use Rattle.counting.specs.Rows.{add_bit, add_bits, bytes_of, Below}
use Rattle.std.proofs.lemmas.Nat.{xor_shr, xor_mod}
use Rattle.sum.specs.Sums.{xor_bytes}
use Rattle.uniform.proofs.Bits.{bits_are, length_bits, number_byte}
use Rattle.uniform.specs.Bits.{byte_bits, bits, Bits}
use Rattle.uniform.specs.Draws.{number}

digit_xor : (x y : ℕ) → x < 2 → y < 2 → bit_xor x y ≡ add_bit x y
digit_xor zero zero h l = refl
digit_xor zero (suc zero) h l = refl
digit_xor zero (suc (suc y)) h l = absurd (omega arith)
digit_xor (suc zero) zero h l = refl
digit_xor (suc zero) (suc zero) h l = refl
digit_xor (suc zero) (suc (suc y)) h l = absurd (omega arith)
digit_xor (suc (suc x)) y h l = absurd (omega arith)

xor_bit : (a b k : ℕ) → bit_xor a b / 2 ^ k % 2 ≡ add_bit (a / 2 ^ k % 2) (b / 2 ^ k % 2)
xor_bit a b k =
    ap (λ x. x % 2) (xor_shr a b k) ∙ xor_mod (a / 2 ^ k) (b / 2 ^ k) 1 ∙ digit_xor (a / 2 ^ k % 2) (b / 2 ^ k % 2) (omega arith) (omega arith)

byte_xor : (a b : ℕ) → byte_bits (bit_xor a b) ≡ add_bits (byte_bits a) (byte_bits b)
unfolding add_bits
byte_xor a b =
    ap₂ ◌∷◌ (xor_bit a b 7)
    (ap₂ ◌∷◌ (xor_bit a b 6)
    (ap₂ ◌∷◌ (xor_bit a b 5)
    (ap₂ ◌∷◌ (xor_bit a b 4)
    (ap₂ ◌∷◌ (xor_bit a b 3) (ap₂ ◌∷◌ (xor_bit a b 2) (ap₂ ◌∷◌ (xor_bit a b 1) (ap₂ ◌∷◌ (xor_bit a b 0) refl)))))))

pub bits_added_holds : (a b : List ℕ) → bits (xor_bytes a b) ≡ add_bits (bits a) (bits b)
unfolding bits xor_bytes add_bits
bits_added_holds [] bs = refl
bits_added_holds (a ∷ xs) [] = refl
bits_added_holds (a ∷ xs) (b ∷ bs) = ap₂ ◌++◌ (byte_xor a b) (bits_added_holds xs bs)

-- 8 bits make a byte, and its bits are those
packed_byte : (a b c d e f g h : ℕ) → a < 2 → b < 2 → c < 2 → d < 2 → e < 2 → f < 2 → g < 2 → h < 2 → (rest : List ℕ) →
    byte_bits (number 8 0 (a ∷ b ∷ c ∷ d ∷ e ∷ f ∷ g ∷ h ∷ rest)) ≡ a ∷ b ∷ c ∷ d ∷ e ∷ f ∷ g ∷ h ∷ []
unfolding number
packed_byte a b c d e f g h ha hb hc hd he hf hg hh rest =
    ap₂ ◌∷◌ (omega arith)
    (ap₂ ◌∷◌ (omega arith)
    (ap₂ ◌∷◌ (omega arith) (ap₂ ◌∷◌ (omega arith) (ap₂ ◌∷◌ (omega arith) (ap₂ ◌∷◌ (omega arith) (ap₂ ◌∷◌ (omega arith) (ap₂ ◌∷◌ (omega arith) refl)))))))

byte_small : (a b c d e f g h : ℕ) → a < 2 → b < 2 → c < 2 → d < 2 → e < 2 → f < 2 → g < 2 → h < 2 → (rest : List ℕ) →
    number 8 0 (a ∷ b ∷ c ∷ d ∷ e ∷ f ∷ g ∷ h ∷ rest) < 256
unfolding number
byte_small a b c d e f g h ha hb hc hd he hf hg hh rest = omega arith

below_cons : (n x : ℕ) (xs : List ℕ) → x < n → Below n xs → Below n (x ∷ xs)
below_cons n x xs u v zero m = u
below_cons n x xs u v (suc i) m = v i (omega arith)

pub packed_holds : (L : ℕ) (row : List ℕ) → length row ≡ 8 * L → Bits row → (bits (bytes_of L row) ≡ row) × (length (bytes_of L row) ≡ L) × Below 256 (bytes_of L row)
unfolding bits bytes_of Bits
packed_holds zero [] l h = (refl, refl, λ i k. absurd (omega arith))
packed_holds zero (a ∷ row) l h = absurd (omega arith)
packed_holds (suc L) [] l h = absurd (omega arith)
packed_holds (suc L) (a ∷ []) l h = absurd (omega arith)
packed_holds (suc L) (a ∷ b ∷ []) l h = absurd (omega arith)
packed_holds (suc L) (a ∷ b ∷ c ∷ []) l h = absurd (omega arith)
packed_holds (suc L) (a ∷ b ∷ c ∷ d ∷ []) l h = absurd (omega arith)
packed_holds (suc L) (a ∷ b ∷ c ∷ d ∷ e ∷ []) l h = absurd (omega arith)
packed_holds (suc L) (a ∷ b ∷ c ∷ d ∷ e ∷ f ∷ []) l h = absurd (omega arith)
packed_holds (suc L) (a ∷ b ∷ c ∷ d ∷ e ∷ f ∷ g ∷ []) l h = absurd (omega arith)
packed_holds (suc L) (a ∷ b ∷ c ∷ d ∷ e ∷ f ∷ g ∷ k ∷ rest) l h =
    let ih = packed_holds L rest (omega arith) (λ i m. h (suc (suc (suc (suc (suc (suc (suc (suc i)))))))) (omega arith)) in (
      ap₂ ◌++◌ (packed_byte a b c d e f g k (h 0 (omega arith)) (h 1 (omega arith)) (h 2 (omega arith)) (h 3 (omega arith)) (h 4 (omega arith)) (h 5 (omega arith)) (h 6 (omega arith)) (h 7 (omega arith)) rest) ih.0,
      ap suc ih.1,
      below_cons 256 (number 8 0 (a ∷ b ∷ c ∷ d ∷ e ∷ f ∷ g ∷ k ∷ rest)) (bytes_of L rest) (byte_small a b c d e f g k (h 0 (omega arith)) (h 1 (omega arith)) (h 2 (omega arith)) (h 3 (omega arith)) (h 4 (omega arith)) (h 5 (omega arith)) (h 6 (omega arith)) (h 7 (omega arith)) rest) ih.2,
    )

-- and a byte's bits make that byte
byte_again : (b : ℕ) (rest : List ℕ) → b < 256 → number 8 0 (byte_bits b ++ rest) ≡ b
byte_again b rest h = number_byte 0 b rest h ∙ omega arith

bytes_again : (L : ℕ) (row : List ℕ) → length row ≡ L → Below 256 row → bytes_of L (bits row) ≡ row
unfolding bits bytes_of
bytes_again zero [] e h = refl
bytes_again zero (b ∷ row) e h = absurd (omega arith)
bytes_again (suc L) [] e h = absurd (omega arith)
bytes_again (suc L) (b ∷ row) e h =
    ap₂ ◌∷◌ (byte_again b (bits row) (h 0 (omega arith)))
    (bytes_again L row (omega arith) (λ i l. h (suc i) (omega arith)))

pub each_row_holds : (L : ℕ) (row : List ℕ) → length row ≡ L → Below 256 row → (bytes_of L (bits row) ≡ row) × (length (bits row) ≡ 8 * L) × Bits (bits row)
each_row_holds L row e h = (bytes_again L row e h, length_bits row ∙ ap (λ z. 8 * z) e, bits_are row)
