-- An order in names: its length, and how often each name stands there. Assumes nothing.
use Rattle.std.proofs.Common.{◌≡◌, ℕ, zero, suc, ◌+◌, ◌<◌, ◌≤◌, cond, eqb, ◌⊎◌, List, [], ◌∷◌, length, get_or, refl, ap, ◌∙◌, inl, inr, arith}
use Rattle.order.specs.Orders.{Valid, without, names, numbers_from, times}
use Rattle.std.proofs.lemmas.Bool.{eq-eqb, ne_eqb, cases_lt}

pub length_without : (k : ℕ) (ls : List ℕ) → k < length ls → suc (length (without k ls)) ≡ length ls
unfolding without
length_without k [] h = absurd (omega arith)
length_without zero (x ∷ xs) h = refl
length_without (suc k) (x ∷ xs) h = ap suc (length_without k xs (omega arith))

pub names_length : (n : ℕ) (ls ks : List ℕ) → Valid n ks → length (names ls ks) ≡ n
unfolding Valid names
names_length zero ls [] v = refl
names_length zero ls (k ∷ ks) v = absurd v
names_length (suc n) ls [] v = absurd v
names_length (suc n) ls (k ∷ ks) v = ap suc (names_length n (without k ls) ks v.1)

pub length_from : (s n : ℕ) → length (numbers_from s n) ≡ n
unfolding numbers_from
length_from s zero = refl
length_from s (suc n) = ap suc (length_from (suc s) n)

-- ---- how often a name stands there

-- 1 where y is x, else 0
abbrev pub hit : ℕ → ℕ → ℕ
hit x y = cond (eqb y x) 1 0

pub times_without : (x k : ℕ) (ls : List ℕ) → k < length ls → hit x (get_or ls k 0) + times x (without k ls) ≡ times x ls
unfolding without times
times_without x k [] h = absurd (omega arith)
times_without x zero (y ∷ ys) h = refl
times_without x (suc k) (y ∷ ys) h = omega (arith, times_without x k ys (omega arith))

times_before : (x s n : ℕ) → x < s → times x (numbers_from s n) ≡ 0
unfolding times numbers_from
times_before x s zero h = refl
times_before x s (suc n) h = rw (ne_eqb s x (λ e. omega arith)) (omega (arith, times_before x (suc s) n (omega arith)))

pub times_from : (x s n : ℕ) → s ≤ x → x < s + n → times x (numbers_from s n) ≡ 1
unfolding times numbers_from
times_from x s zero l h = absurd (omega arith)
times_from x s (suc n) l h = go (cases_lt s x) (λ g. times_from x (suc s) n g (omega arith))
  where
    go : (s < x) ⊎ (x ≤ s) → (suc s ≤ x → times x (numbers_from (suc s) n) ≡ 1) → cond (eqb s x) 1 0 + times x (numbers_from (suc s) n) ≡ 1
    go (inl g) ih = rw (ne_eqb s x (λ e. omega arith)) (omega (arith, ih g))
    go (inr g) ih = rw (eq-eqb s x (omega arith)) (omega (arith, times_before x (suc s) n (omega arith)))

-- the order in names holds what the list holds
pub names_times : (x n : ℕ) (ks ls : List ℕ) → Valid n ks → length ls ≡ n → times x (names ls ks) ≡ times x ls
unfolding names times Valid
names_times x zero [] [] v e = refl
names_times x zero [] (l ∷ ls) v e = absurd (omega arith)
names_times x zero (k ∷ ks) ls v e = absurd v
names_times x (suc n) [] ls v e = absurd v
names_times x (suc n) (k ∷ ks) ls v e =
    let l : k < length ls = omega arith in
    ap (λ z. hit x (get_or ls k 0) + z) (names_times x n ks (without k ls) v.1 (omega (arith, length_without k ls l))) ∙ times_without x k ls l
