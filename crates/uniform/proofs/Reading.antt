-- A number read from three bytes by shifts and masks. Assumes nothing.
use lib.Bits.{bit_and}
use Rattle.std.specs.Int.{from_be_bytes}
use Rattle.std.proofs.Common.{◌≡◌, ℕ, zero, suc, ◌+◌, ◌-◌, ◌*◌, ◌/◌, ◌%◌, ◌^◌, ◌<◌, ◌≤◌, ◌⊎◌, List, [], ◌∷◌, length, get_or, drop, sym, refl, ap, ◌∙◌, ap₂, inl, inr, arith, w32}
use Rattle.std.proofs.lemmas.Nat.{and_mask, one_shl, div-add-mod'}
use Rattle.std.proofs.lemmas.List.{get_or-drop, length-drop}
use Rattle.std.proofs.lemmas.Bool.{cases_lt}
use Rattle.uniform.proofs.Bits.{bits_are, length_bits, drop_bits, number_byte}
use Rattle.uniform.proofs.Numbers.{number_more, number_parts, first_part, last_part}
use Rattle.uniform.specs.Bits.{bits}
use Rattle.uniform.specs.Draws.{number}

-- three bytes side by side
abbrev joined : ℕ → ℕ → ℕ → ℕ
joined a b c = a * 65536 + b * 256 + c

-- `u32::from_be_bytes`
in_a_word : (a b c : ℕ) → from_be_bytes w32 (0 ∷ a ∷ b ∷ c ∷ []) ≡ joined a b c
in_a_word a b c = omega arith

-- `x & (1 << w) - 1`
masked : (x w : ℕ) → w ≤ 16 → bit_and x ((1 * 2 ^ w) % 4294967296 - 1) ≡ x % 2 ^ w
masked x w h = ap (λ z. bit_and x (z - 1)) (one_shl w 32 (omega arith)) ∙ and_mask x w

all_three : (a b c : ℕ) → a < 256 → b < 256 → c < 256 → number 24 0 (bits (a ∷ b ∷ c ∷ [])) ≡ joined a b c
unfolding bits
all_three a b c h k l =
    number_parts 8 16 0 (bits (a ∷ b ∷ c ∷ [])) (omega arith)
    ∙ ap (λ v. number 16 v (bits (b ∷ c ∷ []))) (number_byte 0 a (bits (b ∷ c ∷ [])) h)
    ∙ number_parts 8 8 (0 * 256 + a) (bits (b ∷ c ∷ [])) (omega arith)
    ∙ ap (λ v. number 8 v (bits (c ∷ []))) (number_byte (0 * 256 + a) b (bits (c ∷ [])) k)
    ∙ number_byte ((0 * 256 + a) * 256 + b) c [] l
    ∙ omega arith

-- past the end a byte of zeros stands
padded : (bs : List ℕ) (j : ℕ) → j ≤ 8 * length bs → j ≤ 24 → number j 0 (bits bs) ≡ number j 0 (bits (get_or bs 0 0 ∷ get_or bs 1 0 ∷ get_or bs 2 0 ∷ []))
unfolding bits number
padded [] zero h l = refl
padded [] (suc j) h l = absurd (omega arith)
padded (a ∷ []) j h l = sym (number_more j 0 (bits (a ∷ [])) (bits (0 ∷ 0 ∷ [])) (omega arith))
padded (a ∷ b ∷ []) j h l = sym (number_more j 0 (bits (a ∷ b ∷ [])) (bits (0 ∷ [])) (omega arith))
padded (a ∷ b ∷ c ∷ bs) j h l = number_more j 0 (bits (a ∷ b ∷ c ∷ [])) (bits bs) (omega arith)

-- the first j of the bits of three bytes
front : (bs : List ℕ) (j : ℕ) → j ≤ 8 * length bs → j ≤ 24 → get_or bs 0 0 < 256 → get_or bs 1 0 < 256 → get_or bs 2 0 < 256
    → number j 0 (bits bs) ≡ joined (get_or bs 0 0) (get_or bs 1 0) (get_or bs 2 0) / 2 ^ (24 - j)
front bs j h l p q r =
    let three = bits (get_or bs 0 0 ∷ get_or bs 1 0 ∷ get_or bs 2 0 ∷ []) in
    let e : j + (24 - j) ≡ 24 = omega arith in
    padded bs j h l
    ∙ first_part j (24 - j) three (omega (arith, length_bits (get_or bs 0 0 ∷ get_or bs 1 0 ∷ get_or bs 2 0 ∷ []))) (bits_are (get_or bs 0 0 ∷ get_or bs 1 0 ∷ get_or bs 2 0 ∷ []))
    ∙ ap (λ z. number z 0 three / 2 ^ (24 - j)) e
    ∙ ap (λ z. z / 2 ^ (24 - j)) (all_three (get_or bs 0 0) (get_or bs 1 0) (get_or bs 2 0) p q r)

module _ (bs : List ℕ) (place w a b c word : ℕ) (is_word : word ≡ from_be_bytes w32 (0 ∷ a ∷ b ∷ c ∷ [])) (is_a : a ≡ get_or bs (place / 8) 0) (is_b : b ≡ get_or bs (place / 8 + 1) 0) (is_c : c ≡ get_or bs (place / 8 + 2) 0)
    (small_a : a < 256) (small_b : b < 256) (small_c : c < 256) (few : w ≤ 16) (room : w ≤ 8 * length bs - place) where
  bits_there : 0 < w → joined a b c / 2 ^ (24 - place % 8 - w) % 2 ^ w ≡ number w 0 (drop place (bits bs))
  bits_there pos =
      let q = place / 8 in
      let r = place % 8 in
      let rest = drop q bs in
      let n : length rest ≡ length bs - q = length-drop q bs in
      let e0 : get_or rest 0 0 ≡ a = get_or-drop q bs 0 0 ∙ ap (λ i. get_or bs i 0) (omega arith) ∙ sym is_a in
      let e1 : get_or rest 1 0 ≡ b = get_or-drop q bs 1 0 ∙ sym is_b in
      let e2 : get_or rest 2 0 ≡ c = get_or-drop q bs 2 0 ∙ sym is_c in
      let s : 8 * q + r ≡ place = omega (arith, div-add-mod' place 8) in
      let d : 24 - (r + w) ≡ 24 - r - w = omega arith in
      let f = front rest (r + w) (omega (arith, div-add-mod' place 8)) (omega arith) (omega arith) (omega arith) (omega arith) in
      sym (ap (λ z. number w 0 (drop z (bits bs))) (sym s)
      ∙ ap (number w 0) (drop_bits q r bs)
      ∙ last_part r w (bits rest) (omega (arith, length_bits rest, div-add-mod' place 8)) (bits_are rest)
      ∙ ap (λ z. z % 2 ^ w) (f ∙ ap₂ (λ x y. x / 2 ^ y) (ap₂ (λ x y. x + y) (ap₂ (λ x y. x * 65536 + y * 256) e0 e1) e2) d))

  no_bits : w ≡ 0 → joined a b c / 2 ^ (24 - place % 8 - w) % 2 ^ w ≡ number w 0 (drop place (bits bs))
  unfolding number
  no_bits z = rw z (omega arith)

  by_width : (0 < w) ⊎ (w ≤ 0) → joined a b c / 2 ^ (24 - place % 8 - w) % 2 ^ w ≡ number w 0 (drop place (bits bs))
  by_width (inl h) = bits_there h
  by_width (inr h) = no_bits (omega arith)

  pub read_is : bit_and (word / 2 ^ (24 - place % 8 - w)) ((1 * 2 ^ w) % 4294967296 - 1) ≡ number w 0 (drop place (bits bs))
  read_is =
      masked (word / 2 ^ (24 - place % 8 - w)) w few ∙ ap (λ x. x / 2 ^ (24 - place % 8 - w) % 2 ^ w) (is_word ∙ in_a_word a b c)
      ∙ by_width (cases_lt 0 w)
