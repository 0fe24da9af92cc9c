-- Sums of what a function has at one number after another. Assumes nothing.
use Rattle.std.proofs.Common.{◌≡◌, ℕ, zero, suc, ◌+◌, ◌*◌, ◌<◌, ◌≤◌, ◌⊎◌, sym, refl, ap, ◌∙◌, ap₂, inl, inr, add-zero, add_assoc, add-suc, suc-mul, suc-add, mul-zero, zero-add, zero-mul, mul-add, arith}
use Rattle.counting.specs.Counting.{total}
use Rattle.std.proofs.lemmas.Bool.{cases_lt}

pub total_split : (s m n : ℕ) (f : ℕ → ℕ) → total s (m + n) f ≡ total s m f + total (s + m) n f
unfolding total
total_split s zero n f = simp (zero-add, add-zero)
total_split s (suc m) n f = rw (suc-add m n) (ap (λ x. f s + x) (total_split (suc s) m n f) ∙ rw (suc-add s m, add-suc s m) (sym (add_assoc (f s) (total (suc s) m f) (total (suc (s + m)) n f))))

-- what f has from s on is the same number at each place
pub total_same : (s n c : ℕ) (f : ℕ → ℕ) → ((i : ℕ) → s ≤ i → i < s + n → f i ≡ c) → total s n f ≡ n * c
unfolding total
total_same s zero c f h = sym (zero-mul c)
total_same s (suc n) c f h = rw (suc-mul n c) (omega (arith, h s (omega arith) (omega arith), total_same (suc s) n c f (λ i l k. h i (omega arith) (omega arith))))

pub total_ext : (s n : ℕ) (f g : ℕ → ℕ) → ((i : ℕ) → i < s + n → f i ≡ g i) → total s n f ≡ total s n g
unfolding total
total_ext s zero f g h = refl
total_ext s (suc n) f g h = ap₂ ◌+◌ (h s (omega arith)) (total_ext (suc s) n f g (λ i l. h i (omega arith)))

pub total_mul : (s n c : ℕ) (f : ℕ → ℕ) → total s n (λ i. c * f i) ≡ c * total s n f
unfolding total
total_mul s zero c f = sym (mul-zero c)
total_mul s (suc n) c f = ap (λ x. c * f s + x) (total_mul (suc s) n c f) ∙ sym (mul-add c (f s) (total (suc s) n f))

pub total_add : (s n : ℕ) (f g : ℕ → ℕ) → total s n (λ i. f i + g i) ≡ total s n f + total s n g
unfolding total
total_add s zero f g = refl
total_add s (suc n) f g = omega (arith, total_add (suc s) n f g)

pub total_shift : (s n : ℕ) (f : ℕ → ℕ) → total (suc s) n f ≡ total s n (λ i. f (suc i))
unfolding total
total_shift s zero f = refl
total_shift s (suc n) f = ap (λ x. f (suc s) + x) (total_shift (suc s) n f)

-- f is 0 but at one place
pub total_one : (s n k : ℕ) (f : ℕ → ℕ) → s ≤ k → k < s + n → ((i : ℕ) → (i ≡ k → ⊥) → f i ≡ 0) → total s n f ≡ f k
unfolding total
total_one s zero k f l h z = absurd (omega arith)
total_one s (suc n) k f l h z = go (cases_lt s k) (λ x. total_one (suc s) n k f x (omega arith) z)
  where
    go : (s < k) ⊎ (k ≤ s) → (suc s ≤ k → total (suc s) n f ≡ f k) → f s + total (suc s) n f ≡ f k
    go (inl x) ih = omega (arith, z s (omega arith), ih x)
    go (inr x) ih =
        let e : s ≡ k = omega arith in
        omega (arith, ap f e, total_same (suc s) n 0 f (λ i a b. z i (omega arith)), mul-zero n)
