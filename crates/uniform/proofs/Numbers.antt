-- Bits read as a number: in two parts, behind what is read so far, with more bits behind them. Assumes nothing.
use Rattle.std.proofs.Common.{◌≡◌, ℕ, zero, suc, ◌+◌, ◌*◌, ◌/◌, ◌%◌, ◌^◌, ◌<◌, ◌≤◌, List, [], ◌∷◌, ◌++◌, length, drop, sym, refl, ap, ◌∙◌, add-zero, mul_assoc, add-mul, suc-add, zero-add, mul-one, mul_left_comm, arith, pow_pos}
use native.Mathlib.Nat.{pow-succ'}
use Rattle.std.proofs.lemmas.Nat.{div-mul-add, mod-mul-add}
use Rattle.std.proofs.lemmas.List.{length-drop}
use Rattle.uniform.specs.Bits.{Bits}
use Rattle.uniform.specs.Draws.{number}

pub bits_tail : (x : ℕ) (xs : List ℕ) → Bits (x ∷ xs) → Bits xs
unfolding Bits
bits_tail x xs h i l = h (suc i) (omega arith)

pub bits_drop : (k : ℕ) (xs : List ℕ) → Bits xs → Bits (drop k xs)
bits_drop zero xs h = h
bits_drop (suc k) [] h = h
bits_drop (suc k) (x ∷ xs) h = bits_drop k xs (bits_tail x xs h)

pub number_more : (w v : ℕ) (bs cs : List ℕ) → w ≤ length bs → number w v (bs ++ cs) ≡ number w v bs
unfolding number
number_more zero v bs cs h = refl
number_more (suc w) v [] cs h = absurd (omega arith)
number_more (suc w) v (b ∷ bs) cs h = number_more w (2 * v + b) bs cs (omega arith)

pub number_parts : (a b v : ℕ) (bs : List ℕ) → a ≤ length bs → number (a + b) v bs ≡ number b (number a v bs) (drop a bs)
unfolding number
number_parts zero b v bs h = simp zero-add
number_parts (suc a) b v [] h = absurd (omega arith)
number_parts (suc a) b v (x ∷ bs) h = rw (suc-add a b) (number_parts a b (2 * v + x) bs (omega arith))

number_behind : (k v : ℕ) (bs : List ℕ) → k ≤ length bs → number k v bs ≡ v * 2 ^ k + number k 0 bs
unfolding number
number_behind zero v bs h = simp (mul-one, add-zero)
number_behind (suc k) v [] h = absurd (omega arith)
number_behind (suc k) v (b ∷ bs) h =
    let p = number_behind k (2 * v + b) bs (omega arith) in
    let q = number_behind k (2 * 0 + b) bs (omega arith) in
    let e : (2 * v + b) * 2 ^ k ≡ v * (2 * 2 ^ k) + b * 2 ^ k = simp (add-mul, mul_assoc) (omega (arith, mul_left_comm v 2 (2 ^ k))) in
    let z : 2 * 0 + b ≡ b = omega arith in
    rw pow-succ' (omega (arith, ap (λ x. x * 2 ^ k) z))

pub number_below : (k : ℕ) (bs : List ℕ) → k ≤ length bs → Bits bs → number k 0 bs < 2 ^ k
unfolding number
number_below zero bs h b = pow_pos 0
number_below (suc k) [] h b = absurd (omega arith)
number_below (suc k) (x ∷ bs) h b = go x (unfold Bits in b 0 (omega arith)) (number_below k bs (omega arith) (bits_tail x bs b))
  where
    go : (x : ℕ) → x < 2 → number k 0 bs < 2 ^ k → number k (2 * 0 + x) bs < 2 ^ suc k
    go zero l ih = simp pow-succ' (omega (arith, pow_pos k))
    go (suc zero) l ih = rw (number_behind k 1 bs (omega arith)) (simp pow-succ' (omega arith))
    go (suc (suc x)) l ih = absurd (omega arith)

-- the first a of a + b bits, and the others
module _ (a b : ℕ) (bs : List ℕ) (long : a + b ≤ length bs) (are : Bits bs) where
  others : b ≤ length (drop a bs)
  others = omega (arith, length-drop a bs)

  both : number (a + b) 0 bs ≡ number a 0 bs * 2 ^ b + number b 0 (drop a bs)
  both = number_parts a b 0 bs (omega arith) ∙ number_behind b (number a 0 bs) (drop a bs) others

  small : number b 0 (drop a bs) < 2 ^ b
  small = number_below b (drop a bs) others (bits_drop a bs are)

  pub first_part : number a 0 bs ≡ number (a + b) 0 bs / 2 ^ b
  first_part = sym (ap (λ z. z / 2 ^ b) both ∙ div-mul-add (number a 0 bs) (2 ^ b) (number b 0 (drop a bs)) small)

  pub last_part : number b 0 (drop a bs) ≡ number (a + b) 0 bs % 2 ^ b
  last_part = sym (ap (λ z. z % 2 ^ b) both ∙ mod-mul-add (number a 0 bs) (2 ^ b) (number b 0 (drop a bs)) small)
