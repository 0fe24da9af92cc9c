-- Counting rows of bits: where two properties agree, adding a row, and reading the first w bits as a number. Assumes nothing.
use Rattle.std.proofs.Common.{◌≡◌, ℕ, zero, suc, ◌+◌, ◌*◌, ◌^◌, ◌<◌, ◌≤◌, Bool, true, false, cond, List, [], ◌∷◌, length, drop, sym, refl, ap, ◌∙◌, ap₂, add-zero, add-mul, add_comm, suc-add, one-mul, zero-add, zero-mul, mul-one, mul-add, two-mul, arith}
use native.Mathlib.Nat.{pow-succ'}
use Rattle.counting.proofs.Totals.{total_split}
use Rattle.counting.specs.Counting.{count, total}
use Rattle.counting.specs.Rows.{add_bits}
use Rattle.uniform.proofs.Numbers.{bits_tail}
use Rattle.uniform.specs.Bits.{Bits}
use Rattle.uniform.specs.Draws.{number}

-- equal counts, where the properties agree on each row of b bits
pub count_same : (b : ℕ) (f g : List ℕ → Bool) → ((bs : List ℕ) → length bs ≡ b → f bs ≡ g bs) → count b f ≡ count b g
unfolding count
count_same zero f g h = ap (λ (x : Bool). cond x 1 0) (h [] refl)
count_same (suc b) f g h =
    ap₂ ◌+◌ (count_same b (λ bs. f (0 ∷ bs)) (λ bs. g (0 ∷ bs)) (λ bs e. h (0 ∷ bs) (ap suc e)))
    (count_same b (λ bs. f (1 ∷ bs)) (λ bs. g (1 ∷ bs)) (λ bs e. h (1 ∷ bs) (ap suc e)))

bits_cons : (x : ℕ) (xs : List ℕ) → x < 2 → Bits xs → Bits (x ∷ xs)
unfolding Bits
bits_cons x xs u v zero m = u
bits_cons x xs u v (suc i) m = v i (omega arith)

-- the same, where they agree on each row of b numbers 0 or 1
pub count_bits : (b : ℕ) (f g : List ℕ → Bool) → ((bs : List ℕ) → length bs ≡ b → Bits bs → f bs ≡ g bs) → count b f ≡ count b g
unfolding count
count_bits zero f g h = ap (λ (x : Bool). cond x 1 0) (h [] refl (unfold Bits in λ i l. absurd (omega arith)))
count_bits (suc b) f g h =
    ap₂ ◌+◌ (count_bits b (λ bs. f (0 ∷ bs)) (λ bs. g (0 ∷ bs)) (λ bs e a. h (0 ∷ bs) (ap suc e) (bits_cons 0 bs (omega arith) a)))
    (count_bits b (λ bs. f (1 ∷ bs)) (λ bs. g (1 ∷ bs)) (λ bs e a. h (1 ∷ bs) (ap suc e) (bits_cons 1 bs (omega arith) a)))

pub count_false : (b : ℕ) → count b (λ bs. false) ≡ 0
unfolding count
count_false zero = refl
count_false (suc b) = omega (arith, count_false b)

-- at most all rows
pick_one : (x : Bool) → cond x 1 0 ≤ 1
pick_one true = omega arith
pick_one false = omega arith

pub count_all : (b : ℕ) (f : List ℕ → Bool) → count b f ≤ 2 ^ b
unfolding count
count_all zero f = pick_one (f [])
count_all (suc b) f = simp pow-succ' (omega (arith, count_all b (λ bs. f (0 ∷ bs)), count_all b (λ bs. f (1 ∷ bs))))

-- adding a row of bits to each row only changes their places
bits_head : (x : ℕ) (xs : List ℕ) → Bits (x ∷ xs) → 2 ≤ x → ⊥
unfolding Bits
bits_head x xs h l = omega (arith, h 0 (omega arith))

pub count_added : (b : ℕ) (xs : List ℕ) (f : List ℕ → Bool) → length xs ≡ b → Bits xs → count b (λ m. f (add_bits xs m)) ≡ count b f
unfolding count add_bits
count_added zero [] f e h = refl
count_added zero (x ∷ xs) f e h = absurd (omega arith)
count_added (suc b) [] f e h = absurd (omega arith)
count_added (suc b) (zero ∷ xs) f e h =
    ap₂ ◌+◌ (count_added b xs (λ r. f (0 ∷ r)) (omega arith) (bits_tail 0 xs h))
    (count_added b xs (λ r. f (1 ∷ r)) (omega arith) (bits_tail 0 xs h))
count_added (suc b) (suc zero ∷ xs) f e h =
    ap₂ ◌+◌ (count_added b xs (λ r. f (1 ∷ r)) (omega arith) (bits_tail 1 xs h))
    (count_added b xs (λ r. f (0 ∷ r)) (omega arith) (bits_tail 1 xs h)) ∙ add_comm (count b (λ r. f (1 ∷ r))) (count b (λ r. f (0 ∷ r)))
count_added (suc b) (suc (suc x) ∷ xs) f e h = absurd (bits_head (suc (suc x)) xs h (omega arith))

-- the first w bits of a row of w + b, as a number, take each value from 0 to 2^w - 1 once
pub count_number : (w b v : ℕ) (f : ℕ → List ℕ → Bool) →
    count (w + b) (λ bs. f (number w v bs) (drop w bs)) ≡ total (v * 2 ^ w) (2 ^ w) (λ i. count b (f i))
unfolding count number total
count_number zero b v f = simp (zero-add, mul-one, add-zero)
count_number (suc w) b v f =
    rw (suc-add w b) (ap₂ ◌+◌ (count_number w b (2 * v + 0) f) (count_number w b (2 * v + 1) f) ∙ ap₂ (λ x y. total x (2 ^ w) F + total y (2 ^ w) F) e0 e1
    ∙ sym (ap (λ n. total (v * 2 ^ suc w) n F) e2 ∙ total_split (v * 2 ^ suc w) (2 ^ w) (2 ^ w) F))
  where
    F : ℕ → ℕ
    F i = count b (f i)

    e2 : 2 ^ suc w ≡ 2 ^ w + 2 ^ w
    e2 = simp pow-succ' (two-mul (2 ^ w))

    e0 : (2 * v + 0) * 2 ^ w ≡ v * 2 ^ suc w
    e0 = simp (e2, mul-add, add-mul, two-mul) (omega (arith, zero-mul (2 ^ w)))

    e1 : (2 * v + 1) * 2 ^ w ≡ v * 2 ^ suc w + 2 ^ w
    e1 = simp (e2, mul-add, add-mul, two-mul) (omega (arith, one-mul (2 ^ w)))
