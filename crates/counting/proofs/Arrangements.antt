-- Each arrangement of the names is that of one row of drawn numbers. Assumes nothing.
use Rattle.std.proofs.Common.{◌≡◌, ℕ, zero, suc, ◌+◌, ◌<◌, ◌≤◌, Bool, true, false, cond, ◌&&◌, eqb, ◌⊎◌, List, [], ◌∷◌, length, get_or, sym, refl, ap, ◌∙◌, subst, ap₂, inl, inr, zero-le, arith}
use Rattle.counting.proofs.Fairness.{fair_order}
use Rattle.counting.proofs.Parties.{others}
use Rattle.counting.proofs.Rows.{count_same, count_added}
use Rattle.counting.specs.Counting.{count, same_row, is_order}
use Rattle.counting.specs.Orders.{Arrangement}
use Rattle.counting.specs.Rows.{add_bits, Below}
use Rattle.order.proofs.Names.{hit, length_without, times_without, times_from, length_from, names_times, names_length}
use Rattle.order.proofs.Once.{names_once}
use Rattle.order.proofs.Turns.{order_valid}
use Rattle.order.specs.Orders.{Order, some, none, order, Valid, without, names, numbers_from, written, order_names, times}
use Rattle.std.proofs.lemmas.Bool.{cases_lt, cases_eq, and_parts, ne_eqb, eq-eqb, eqb-true}
use Rattle.uniform.specs.Bits.{Bits}

-- where x stands in a list
place : ℕ → List ℕ → ℕ
place x [] = 0
place x (y ∷ ys) = cond (eqb y x) 0 (suc (place x ys))

times_at : (x k : ℕ) (ls : List ℕ) → k < length ls → get_or ls k 0 ≡ x → 0 < times x ls
times_at x k ls h e =
    let o : hit x (get_or ls k 0) ≡ 1 = ap (λ (q : Bool). cond q 1 0) (eq-eqb (get_or ls k 0) x e) in
    omega (arith, times_without x k ls h)

place_fits : (x : ℕ) (ls : List ℕ) → 0 < times x ls → (place x ls < length ls) × (get_or ls (place x ls) 0 ≡ x)
unfolding place times
place_fits x [] h = absurd (omega arith)
place_fits x (y ∷ ys) h = go (eqb y x) refl h (place_fits x ys)
  where
    go : (p : Bool) → eqb y x ≡ p → 0 < cond p 1 0 + times x ys → (0 < times x ys → (place x ys < length ys) × (get_or ys (place x ys) 0 ≡ x)) →
        (cond p 0 (suc (place x ys)) < suc (length ys)) × (get_or (y ∷ ys) (cond p 0 (suc (place x ys))) 0 ≡ x)
    go true t h ih = (omega arith, eqb-true y x t)
    go false t h ih = let r = ih (omega arith) in (omega arith, r.1)

place_only : (x k : ℕ) (ls : List ℕ) → times x ls ≤ 1 → k < length ls → get_or ls k 0 ≡ x → place x ls ≡ k
unfolding place times
place_only x k [] o h e = absurd (omega arith)
place_only x zero (y ∷ ys) o h e = rw (eq-eqb y x e)
place_only x (suc k) (y ∷ ys) o h e = go (eqb y x) o (place_only x k ys)
  where
    go : (p : Bool) → cond p 1 0 + times x ys ≤ 1 → (times x ys ≤ 1 → k < length ys → get_or ys k 0 ≡ x → place x ys ≡ k) → cond p 0 (suc (place x ys)) ≡ suc k
    go true o ih = absurd (omega (arith, times_at x k ys (omega arith) e))
    go false o ih = ap suc (ih (omega arith) (omega arith) e)

-- the row of drawn numbers of an arrangement of a list
pub rank : List ℕ → List ℕ → List ℕ
rank ls [] = []
rank ls (x ∷ xs) = place x ls ∷ rank (without (place x ls) ls) xs

-- p holds no more than ls
abbrev Within : List ℕ → List ℕ → Type 0
Within p ls = (y : ℕ) → times y p ≤ times y ls

head_in : (x : ℕ) (p ls : List ℕ) → Within (x ∷ p) ls → 0 < times x ls
unfolding times
head_in x p ls w = let o : hit x x ≡ 1 = ap (λ (q : Bool). cond q 1 0) (eq-eqb x x refl) in omega (arith, w x)

tail_in : (x : ℕ) (p ls : List ℕ) → Within (x ∷ p) ls → Within p (without (place x ls) ls)
unfolding times
tail_in x p ls w y =
    let f = place_fits x ls (head_in x p ls w) in
    let e : hit y (get_or ls (place x ls) 0) ≡ hit y x = ap (hit y) f.1 in
    omega (arith, w y, times_without y (place x ls) ls f.0)

less_once : (y k : ℕ) (ls : List ℕ) → k < length ls → times y ls ≤ 1 → times y (without k ls) ≤ 1
less_once y k ls h o = omega (arith, times_without y k ls h)

rank_valid : (n : ℕ) (p ls : List ℕ) → length p ≡ n → length ls ≡ n → Within p ls → Valid n (rank ls p)
unfolding Valid rank
rank_valid zero [] ls e l w = tt
rank_valid zero (x ∷ p) ls e l w = absurd (omega arith)
rank_valid (suc n) [] ls e l w = absurd (omega arith)
rank_valid (suc n) (x ∷ p) ls e l w =
    let f = place_fits x ls (head_in x p ls w) in
    (omega arith, rank_valid n p (without (place x ls) ls) (omega arith) (omega (arith, length_without (place x ls) ls f.0)) (tail_in x p ls w))

names_rank : (p ls : List ℕ) → Within p ls → names ls (rank ls p) ≡ p
unfolding names rank
names_rank [] ls w = refl
names_rank (x ∷ p) ls w = ap₂ ◌∷◌ (place_fits x ls (head_in x p ls w)).1 (names_rank p (without (place x ls) ls) (tail_in x p ls w))

same_rank : (n : ℕ) (p ls ks : List ℕ) → Valid n ks → length p ≡ n → length ls ≡ n → Within p ls → ((y : ℕ) → times y ls ≤ 1) →
    same_row p (names ls ks) ≡ same_row (rank ls p) ks
unfolding Valid rank names same_row
same_rank zero [] ls [] v e l w o = refl
same_rank zero [] ls (k ∷ ks) v e l w o = absurd v
same_rank zero (x ∷ p) ls ks v e l w o = absurd (omega arith)
same_rank (suc n) [] ls ks v e l w o = absurd (omega arith)
same_rank (suc n) (x ∷ p) ls [] v e l w o = absurd v
same_rank (suc n) (x ∷ p) ls (k ∷ ks) v e l w o =
    let f = place_fits x ls (head_in x p ls w) in
    let m = without (place x ls) ls in
    go f (cases_eq x (get_or ls k 0))
    (same_rank n p m ks v.1 (omega arith) (omega (arith, length_without (place x ls) ls f.0)) (tail_in x p ls w) (λ y. less_once y (place x ls) ls f.0 (o y)))
  where
    go : (place x ls < length ls) × (get_or ls (place x ls) 0 ≡ x) → (x ≡ get_or ls k 0) ⊎ (x ≡ get_or ls k 0 → ⊥) →
        same_row p (names (without (place x ls) ls) ks) ≡ same_row (rank (without (place x ls) ls) p) ks →
        (eqb x (get_or ls k 0) && same_row p (names (without k ls) ks)) ≡ (eqb (place x ls) k && same_row (rank (without (place x ls) ls) p) ks)
    go f (inl t) ih =
        let j : place x ls ≡ k = place_only x k ls (o x) (omega arith) (sym t) in
        rw (eq-eqb x (get_or ls k 0) t, eq-eqb (place x ls) k j) (ap (λ i. same_row p (names (without i ls) ks)) (sym j) ∙ ih)
    go f (inr t) ih = rw (ne_eqb x (get_or ls k 0) t, ne_eqb (place x ls) k (λ j. t (sym f.1 ∙ ap (λ i. get_or ls i 0) j)))

-- what the names 0 to n - 1 hold, and what an arrangement holds
times_past : (x s n : ℕ) → s + n ≤ x → times x (numbers_from s n) ≡ 0
unfolding times numbers_from
times_past x s zero h = refl
times_past x s (suc n) h = rw (ne_eqb s x (λ e. omega arith)) (omega (arith, times_past x (suc s) n (omega arith)))

from_once : (x n : ℕ) → times x (numbers_from 0 n) ≤ 1
from_once x n = go (cases_lt x n)
  where
    go : (x < n) ⊎ (n ≤ x) → times x (numbers_from 0 n) ≤ 1
    go (inl h) = omega (arith, times_from x 0 n zero-le (omega arith))
    go (inr h) = omega (arith, times_past x 0 n (omega arith))

below_times : (n x : ℕ) (p : List ℕ) → Below n p → n ≤ x → times x p ≡ 0
unfolding times
below_times n x [] b h = refl
below_times n x (y ∷ ys) b h =
    rw (ne_eqb y x (λ e. omega (arith, b 0 (omega arith)))) (omega (arith, below_times n x ys (λ i l. b (suc i) (omega arith)) h))

within_all : (n : ℕ) (p : List ℕ) → Arrangement n p → Within p (numbers_from 0 n)
unfolding Arrangement
within_all n p a y = go (cases_lt y n)
  where
    go : (y < n) ⊎ (n ≤ y) → times y p ≤ times y (numbers_from 0 n)
    go (inl h) = omega (arith, times_from y 0 n zero-le (omega arith), a.2 y)
    go (inr h) = omega (arith, below_times n y p a.1 h)

same_row_refl : (xs : List ℕ) → same_row xs xs ≡ true
unfolding same_row
same_row_refl [] = refl
same_row_refl (x ∷ xs) = rw (eq-eqb x x refl) (same_row_refl xs)

same_row_true : (xs ys : List ℕ) → same_row xs ys ≡ true → xs ≡ ys
unfolding same_row
same_row_true [] [] t = refl
same_row_true [] (y ∷ ys) t = let z : ◌≡◌ {A = ℕ} 0 1 = cc in absurd (omega arith)
same_row_true (x ∷ xs) [] t = let z : ◌≡◌ {A = ℕ} 0 1 = cc in absurd (omega arith)
same_row_true (x ∷ xs) (y ∷ ys) t = let b = and_parts (eqb x y) (same_row xs ys) t in ap₂ ◌∷◌ (eqb-true x y b.0) (same_row_true xs ys b.1)

module _ (n : ℕ) (p : List ℕ) (a : Arrangement n p) where
  -- the row of drawn numbers of p
  abbrev pub row_of : List ℕ
  row_of = rank (numbers_from 0 n) p

  pub row_valid : Valid n row_of
  row_valid = unfold Arrangement in rank_valid n p (numbers_from 0 n) a.0 (length_from 0 n) (within_all n p a)

  pub row_names : names (numbers_from 0 n) row_of ≡ p
  row_names = names_rank p (numbers_from 0 n) (within_all n p a)

  pub row_same : (ks : List ℕ) → Valid n ks → same_row p (names (numbers_from 0 n) ks) ≡ same_row row_of ks
  row_same ks v = unfold Arrangement in same_rank n p (numbers_from 0 n) ks v a.0 (length_from 0 n) (within_all n p a) (λ y. from_once y n)

  row_only : (ls : List ℕ) → Valid n ls → names (numbers_from 0 n) ls ≡ p → ls ≡ row_of
  row_only ls v e = sym (same_row_true row_of ls (sym (row_same ls v) ∙ ap (same_row p) e ∙ same_row_refl p))

  -- an order in names is p where the order is the row of p
  pub written_is : (bs : List ℕ) → is_order p (order_names n bs) ≡ is_order row_of (order n bs)
  unfolding is_order written order_names
  written_is bs = go (order n bs) refl
    where
      go : (o : Order) → order n bs ≡ o → is_order p (written (numbers_from 0 n) o) ≡ is_order row_of o
      go (some ks) e = row_same ks (order_valid n bs ks e)
      go none e = refl

pub one_row_holds : (n : ℕ) (p : List ℕ) → Arrangement n p →
    (ks : List ℕ) × Valid n ks × (names (numbers_from 0 n) ks ≡ p) × ((ls : List ℕ) → Valid n ls → names (numbers_from 0 n) ls ≡ p → ls ≡ ks)
one_row_holds n p a = (row_of n p a, row_valid n p a, row_names n p a, row_only n p a)

pub fair_names : (n : ℕ) (p q : List ℕ) → Arrangement n p → Arrangement n q → (b : ℕ) →
    count b (λ bs. is_order p (order_names n bs)) ≡ count b (λ bs. is_order q (order_names n bs))
fair_names n p q a c b =
    count_same b (λ bs. is_order p (order_names n bs)) (λ bs. is_order (row_of n p a) (order n bs)) (λ bs e. written_is n p a bs)
    ∙ fair_order n (row_of n p a) (row_of n q c) (row_valid n p a) (row_valid n q c) b
    ∙ sym (count_same b (λ bs. is_order q (order_names n bs)) (λ bs. is_order (row_of n q c) (order n bs)) (λ bs e. written_is n q c bs))

pub fair_permutation_holds : (n b : ℕ) (others p q : List ℕ) → length others ≡ b → Bits others → Arrangement n p → Arrangement n q →
    count b (λ mine. is_order p (order_names n (add_bits others mine))) ≡ count b (λ mine. is_order q (order_names n (add_bits others mine)))
fair_permutation_holds n b others p q e h a c =
    count_added b others (λ r. is_order p (order_names n r)) e h ∙ fair_names n p q a c b ∙ sym (count_added b others (λ r. is_order q (order_names n r)) e h)

-- what is found is an arrangement
pub names_arranged : (n : ℕ) (ks : List ℕ) → Valid n ks → Arrangement n (names (numbers_from 0 n) ks)
unfolding Arrangement
names_arranged n ks v = (names_length n (numbers_from 0 n) ks v, λ i h. below i h (cases_lt (at i) n), λ x. omega (arith, same x, from_once x n))
  where
    at : ℕ → ℕ
    at i = get_or (names (numbers_from 0 n) ks) i 0

    same : (x : ℕ) → times x (names (numbers_from 0 n) ks) ≡ times x (numbers_from 0 n)
    same x = names_times x n ks (numbers_from 0 n) v (length_from 0 n)

    below : (i : ℕ) → i < length (names (numbers_from 0 n) ks) → (at i < n) ⊎ (n ≤ at i) → at i < n
    below i h (inl l) = l
    below i h (inr l) = absurd (omega (arith, times_at (at i) i (names (numbers_from 0 n) ks) h refl, same (at i), times_past (at i) 0 n (omega arith)))

pub is_arrangement_holds : (n : ℕ) (bs p : List ℕ) → order_names n bs ≡ some p → Arrangement n p
unfolding written order_names
is_arrangement_holds n bs p e = go (order n bs) refl e
  where
    go : (o : Order) → order n bs ≡ o → written (numbers_from 0 n) o ≡ some p → Arrangement n p
    go (some ks) d e = let z : names (numbers_from 0 n) ks ≡ p = cc in subst (Arrangement n) z (names_arranged n ks (order_valid n bs ks d))
    go none d e = let z : ◌≡◌ {A = ℕ} 0 1 = cc in absurd (omega arith)

pub each_once_holds : (n : ℕ) (bs p : List ℕ) → order_names n bs ≡ some p → (length p ≡ n) × ((x : ℕ) → x < n → times x p ≡ 1)
unfolding written order_names
each_once_holds n bs p e = go (order n bs) refl e
  where
    go : (o : Order) → order n bs ≡ o → written (numbers_from 0 n) o ≡ some p → (length p ≡ n) × ((x : ℕ) → x < n → times x p ≡ 1)
    go (some ks) d e = let z : names (numbers_from 0 n) ks ≡ p = cc in rw (sym z) (names_once n ks (order_valid n bs ks d))
    go none d e = let z : ◌≡◌ {A = ℕ} 0 1 = cc in absurd (omega arith)
