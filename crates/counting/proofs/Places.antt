-- How many orders give a place, or two, to a name. Assumes nothing.
use Rattle.std.proofs.Common.{◌≡◌, ℕ, zero, suc, ◌+◌, ◌*◌, ◌<◌, ◌≤◌, Bool, true, false, cond, ◌&&◌, eqb, ◌⊎◌, List, [], ◌∷◌, length, get_or, sym, refl, ap, ◌∙◌, ap₂, inl, inr, zero-le, mul_assoc, suc-mul, mul_comm, add-mul, one-mul, mul-zero, zero-mul, mul-one, mul-add, mul_left_comm, arith}
use Rattle.counting.proofs.Parties.{others}
use Rattle.counting.proofs.Totals.{total_same, total_ext, total_mul, total_add, total_shift}
use Rattle.counting.proofs.Uniform.{uniform_holds}
use Rattle.counting.specs.Counting.{count, total, tally, fact, is_order, gives}
use Rattle.counting.specs.Places.{at_place}
use Rattle.counting.specs.Rows.{add_bits}
use Rattle.order.proofs.Names.{hit, length_without, times_without, times_from, length_from}
use Rattle.order.specs.Orders.{order, Valid, without, names, numbers_from, times}
use Rattle.std.proofs.lemmas.Bool.{cases_lt, ne_eqb, eqb-true}
use Rattle.uniform.specs.Bits.{Bits}

total_hits : (x : ℕ) (ls : List ℕ) → total 0 (length ls) (λ k. hit x (get_or ls k 0)) ≡ times x ls
unfolding total times
total_hits x [] = refl
total_hits x (y ∷ ys) = ap (λ z. hit x y + z) (total_shift 0 (length ys) (λ k. hit x (get_or (y ∷ ys) k 0)) ∙ total_hits x ys)

pub tally_same : (n : ℕ) (F G : List ℕ → Bool) → ((ks : List ℕ) → F ks ≡ G ks) → tally n F ≡ tally n G
unfolding tally
tally_same zero F G h = ap (λ (p : Bool). cond p 1 0) (h [])
tally_same (suc n) F G h =
    total_ext 0 (suc n) (λ k. tally n (λ ks. F (k ∷ ks))) (λ k. tally n (λ ks. G (k ∷ ks)))
    (λ k l. tally_same n (λ ks. F (k ∷ ks)) (λ ks. G (k ∷ ks)) (λ ks. h (k ∷ ks)))

pub tally_const : (n : ℕ) (p : Bool) → tally n (λ ks. p) ≡ fact n * cond p 1 0
unfolding tally fact
tally_const zero p = sym (one-mul (cond p 1 0))
tally_const (suc n) p =
    total_same 0 (suc n) (fact n * cond p 1 0) (λ k. tally n (λ ks. p)) (λ i l k. tally_const n p) ∙ sym (mul_assoc (suc n) (fact n) (cond p 1 0))

tally_and : (n : ℕ) (p : Bool) (G : List ℕ → Bool) → tally n (λ ks. p && G ks) ≡ cond p 1 0 * tally n G
tally_and n true G = sym (one-mul (tally n G))
tally_and n false G = tally_const n false ∙ mul-zero (fact n) ∙ sym (zero-mul (tally n G))

fact_mul : (n t : ℕ) → fact n * (suc n * t) ≡ fact (suc n) * t
unfolding fact
fact_mul n t = mul_left_comm (fact n) (suc n) t ∙ sym (mul_assoc (suc n) (fact n) t)

total_hits_at : (x n : ℕ) (ls : List ℕ) → length ls ≡ n → total 0 n (λ k. hit x (get_or ls k 0)) ≡ times x ls
total_hits_at x n ls e = ap (λ m. total 0 m (λ k. hit x (get_or ls k 0))) (sym e) ∙ total_hits x ls

total_without : (x m : ℕ) (ls : List ℕ) → length ls ≡ suc m → total 0 (suc m) (λ k. times x (without k ls)) ≡ m * times x ls
total_without x m ls e =
    omega (
      arith,
      total_add 0 (suc m) (λ k. hit x (get_or ls k 0)) (λ k. times x (without k ls)),
      total_hits_at x (suc m) ls e,
      suc-mul m (times x ls),
      total_same 0 (suc m) (times x ls) (λ k. hit x (get_or ls k 0) + times x (without k ls)) (λ k l h. times_without x k ls (omega arith)),
    )

-- the orders that give place p to x
place_tally : (p n x : ℕ) (ls : List ℕ) → length ls ≡ suc n → p < suc n → tally (suc n) (λ ks. eqb (get_or (names ls ks) p 0) x) ≡ fact n * times x ls
unfolding tally names
place_tally zero n x ls e h =
    total_ext 0 (suc n) (λ k. tally n (λ ks. eqb (get_or ls k 0) x)) (λ k. fact n * hit x (get_or ls k 0)) (λ k l. tally_const n (eqb (get_or ls k 0) x))
    ∙ total_mul 0 (suc n) (fact n) (λ k. hit x (get_or ls k 0))
    ∙ ap (λ z. fact n * z) (total_hits_at x (suc n) ls e)
place_tally (suc p) zero x ls e h = absurd (omega arith)
place_tally (suc p) (suc n) x ls e h =
    total_ext 0 (suc (suc n)) (λ k. tally (suc n) (λ ks. eqb (get_or (names (without k ls) ks) p 0) x)) (λ k. fact n * times x (without k ls))
    (λ k l. place_tally p n x (without k ls) (omega (arith, length_without k ls (omega arith))) (omega arith))
    ∙ total_mul 0 (suc (suc n)) (fact n) (λ k. times x (without k ls))
    ∙ ap (λ z. fact n * z) (total_without x (suc n) ls e) ∙ fact_mul n (times x ls)

-- x and y apart, and z one of the list: hit x z + a are x in the list, hit y z + b are y
module _ (z x y a b : ℕ) (ne : x ≡ y → ⊥) where
  apart : (c : ℕ) → hit y z + b ≡ c → hit x z * b ≡ c * hit x z
  apart c e = go (eqb z x) refl
    where
      go : (p : Bool) → eqb z x ≡ p → cond p 1 0 * b ≡ c * cond p 1 0
      go true t =
          let w : hit y z ≡ 0 = ap (λ (q : Bool). cond q 1 0) (ne_eqb z y (λ f. ne (sym (eqb-true z x t) ∙ f))) in
          omega (arith, one-mul b, mul-one c)
      go false t = zero-mul b ∙ sym (mul-zero c)

  both : (hit x z + a) * (hit y z + b) ≡ a * b + ((hit y z + b) * hit x z + (hit x z + a) * hit y z)
  both = go (eqb z x) (eqb z y) refl refl
    where
      go : (p q : Bool) → eqb z x ≡ p → eqb z y ≡ q →
          (cond p 1 0 + a) * (cond q 1 0 + b) ≡ a * b + ((cond q 1 0 + b) * cond p 1 0 + (cond p 1 0 + a) * cond q 1 0)
      go true true t u = absurd (ne (sym (eqb-true z x t) ∙ eqb-true z y u))
      go true false t u = simp (add-mul, mul-add, mul-one, mul-zero, one-mul) (omega arith)
      go false true t u = simp (add-mul, mul-add, mul-one, mul-zero, zero-mul) (omega arith)
      go false false t u = simp (add-mul, mul-add, mul-zero, zero-mul) (omega arith)

total_pairs : (x y m : ℕ) (ls : List ℕ) → (x ≡ y → ⊥) → length ls ≡ suc (suc m) →
    total 0 (suc (suc m)) (λ k. times x (without k ls) * times y (without k ls)) ≡ m * (times x ls * times y ls)
total_pairs x y m ls ne e =
    omega (arith, all, parts, suc-mul (suc m) (times x ls * times y ls), suc-mul m (times x ls * times y ls), mul_comm (times x ls) (times y ls))
  where
    X : ℕ → ℕ
    X k = hit x (get_or ls k 0)

    Y : ℕ → ℕ
    Y k = hit y (get_or ls k 0)

    A : ℕ → ℕ
    A k = times x (without k ls) * times y (without k ls)

    at : (k : ℕ) → k < suc (suc m) → times x ls * times y ls ≡ A k + (times y ls * X k + times x ls * Y k)
    at k h =
        let l : k < length ls = omega arith in
        rw (← times_without x k ls l, ← times_without y k ls l) (both (get_or ls k 0) x y (times x (without k ls)) (times y (without k ls)) ne)

    all : total 0 (suc (suc m)) (λ k. A k + (times y ls * X k + times x ls * Y k)) ≡ suc (suc m) * (times x ls * times y ls)
    all = total_same 0 (suc (suc m)) (times x ls * times y ls) (λ k. A k + (times y ls * X k + times x ls * Y k)) (λ k l h. sym (at k (omega arith)))

    parts : total 0 (suc (suc m)) (λ k. A k + (times y ls * X k + times x ls * Y k)) ≡ total 0 (suc (suc m)) A + (times y ls * times x ls + times x ls * times y ls)
    parts =
        total_add 0 (suc (suc m)) A (λ k. times y ls * X k + times x ls * Y k) ∙
        ap (λ z. total 0 (suc (suc m)) A + z)
        (total_add 0 (suc (suc m)) (λ k. times y ls * X k) (λ k. times x ls * Y k) ∙
        ap₂ ◌+◌ (total_mul 0 (suc (suc m)) (times y ls) X ∙ ap (λ z. times y ls * z) (total_hits_at x (suc (suc m)) ls e))
        (total_mul 0 (suc (suc m)) (times x ls) Y ∙ ap (λ z. times x ls * z) (total_hits_at y (suc (suc m)) ls e)))

-- the orders that give place p to x, and place q to y
pair_tally : (p q n x y : ℕ) (ls : List ℕ) → (x ≡ y → ⊥) → length ls ≡ suc (suc n) → p < q → q < suc (suc n) →
    tally (suc (suc n)) (λ ks. eqb (get_or (names ls ks) p 0) x && eqb (get_or (names ls ks) q 0) y) ≡ fact n * (times x ls * times y ls)
unfolding tally names
pair_tally zero zero n x y ls ne e l h = absurd (omega arith)
pair_tally zero (suc q) n x y ls ne e l h =
    total_ext 0 (suc (suc n)) (λ k. tally (suc n) (λ ks. eqb (get_or ls k 0) x && eqb (get_or (names (without k ls) ks) q 0) y))
    (λ k. (fact n * times y ls) * hit x (get_or ls k 0))
    (λ k l. let h' : k < length ls = omega arith in
    tally_and (suc n) (eqb (get_or ls k 0) x) (λ ks. eqb (get_or (names (without k ls) ks) q 0) y)
    ∙ ap (λ z. hit x (get_or ls k 0) * z) (place_tally q n y (without k ls) (omega (arith, length_without k ls h')) (omega arith))
    ∙ mul_left_comm (hit x (get_or ls k 0)) (fact n) (times y (without k ls))
    ∙ ap (λ z. fact n * z) (apart (get_or ls k 0) x y 0 (times y (without k ls)) ne (times y ls) (times_without y k ls h'))
    ∙ sym (mul_assoc (fact n) (times y ls) (hit x (get_or ls k 0))))
    ∙ total_mul 0 (suc (suc n)) (fact n * times y ls) (λ k. hit x (get_or ls k 0))
    ∙ ap (λ z. fact n * times y ls * z) (total_hits_at x (suc (suc n)) ls e)
    ∙ mul_assoc (fact n) (times y ls) (times x ls) ∙ ap (λ z. fact n * z) (mul_comm (times y ls) (times x ls))
pair_tally (suc p) zero n x y ls ne e l h = absurd (omega arith)
pair_tally (suc p) (suc q) zero x y ls ne e l h = absurd (omega arith)
pair_tally (suc p) (suc q) (suc n) x y ls ne e l h =
    total_ext 0 (suc (suc (suc n)))
    (λ k. tally (suc (suc n)) (λ ks. eqb (get_or (names (without k ls) ks) p 0) x && eqb (get_or (names (without k ls) ks) q 0) y))
    (λ k. fact n * (times x (without k ls) * times y (without k ls)))
    (λ k h'. pair_tally p q n x y (without k ls) ne (omega (arith, length_without k ls (omega arith))) (omega arith) (omega arith))
    ∙ total_mul 0 (suc (suc (suc n))) (fact n) (λ k. times x (without k ls) * times y (without k ls))
    ∙ ap (λ z. fact n * z) (total_pairs x y (suc n) ls ne e) ∙ fact_mul n (times x ls * times y ls)

pub zeros : ℕ → List ℕ
zeros zero = []
zeros (suc n) = 0 ∷ zeros n

pub zeros_valid : (n : ℕ) → Valid n (zeros n)
unfolding zeros Valid
zeros_valid zero = tt
zeros_valid (suc n) = (omega arith, zeros_valid n)

-- two properties that as many orders have
by_tally : (n b : ℕ) (others : List ℕ) (F G : List ℕ → Bool) → length others ≡ b → Bits others → tally n F ≡ tally n G →
    count b (λ mine. gives F (order n (add_bits others mine))) ≡ count b (λ mine. gives G (order n (add_bits others mine)))
by_tally n b others F G e h t =
    uniform_holds n b others (zeros n) F e h (zeros_valid n) ∙ ap (λ z. count b (λ mine. is_order (zeros n) (order n (add_bits others mine))) * z) t ∙
    sym (uniform_holds n b others (zeros n) G e h (zeros_valid n))

pub place_all : (n p x : ℕ) → p < suc n → x < suc n → tally (suc n) (at_place (suc n) p x) ≡ fact n
unfolding at_place
place_all n p x hp hx =
    place_tally p n x (numbers_from 0 (suc n)) (length_from 0 (suc n)) hp ∙ ap (λ z. fact n * z) (times_from x 0 (suc n) zero-le (omega arith)) ∙ mul-one (fact n)

pub fair_place_holds : (n b : ℕ) (others : List ℕ) (p x y : ℕ) → length others ≡ b → Bits others → p < n → x < n → y < n →
    count b (λ mine. gives (at_place n p x) (order n (add_bits others mine))) ≡ count b (λ mine. gives (at_place n p y) (order n (add_bits others mine)))
fair_place_holds zero b others p x y e h hp hx hy = absurd (omega arith)
fair_place_holds (suc n) b others p x y e h hp hx hy =
    by_tally (suc n) b others (at_place (suc n) p x) (at_place (suc n) p y) e h (place_all n p x hp hx ∙ sym (place_all n p y hp hy))

pair_up : (n p q x y : ℕ) → p < q → q < suc (suc n) → x < suc (suc n) → y < suc (suc n) → (x ≡ y → ⊥) →
    tally (suc (suc n)) (λ ks. at_place (suc (suc n)) p x ks && at_place (suc (suc n)) q y ks) ≡ fact n
unfolding at_place
pair_up n p q x y l hq hx hy ne =
    pair_tally p q n x y (numbers_from 0 (suc (suc n))) ne (length_from 0 (suc (suc n))) l hq ∙
    ap₂ (λ a b. fact n * (a * b)) (times_from x 0 (suc (suc n)) zero-le (omega arith)) (times_from y 0 (suc (suc n)) zero-le (omega arith)) ∙ mul-one (fact n)

and_turn : (a b : Bool) → (a && b) ≡ (b && a)
and_turn true true = refl
and_turn true false = refl
and_turn false true = refl
and_turn false false = refl

pub pair_all : (n p q x y : ℕ) → p < suc (suc n) → q < suc (suc n) → (p ≡ q → ⊥) → x < suc (suc n) → y < suc (suc n) → (x ≡ y → ⊥) →
    tally (suc (suc n)) (λ ks. at_place (suc (suc n)) p x ks && at_place (suc (suc n)) q y ks) ≡ fact n
pair_all n p q x y hp hq pq hx hy ne = go (cases_lt p q)
  where
    go : (p < q) ⊎ (q ≤ p) → tally (suc (suc n)) (λ ks. at_place (suc (suc n)) p x ks && at_place (suc (suc n)) q y ks) ≡ fact n
    go (inl l) = pair_up n p q x y l hq hx hy ne
    go (inr l) =
        tally_same (suc (suc n)) (λ ks. at_place (suc (suc n)) p x ks && at_place (suc (suc n)) q y ks)
        (λ ks. at_place (suc (suc n)) q y ks && at_place (suc (suc n)) p x ks)
        (λ ks. and_turn (at_place (suc (suc n)) p x ks) (at_place (suc (suc n)) q y ks)) ∙
        pair_up n q p y x (omega arith) hp hy hx (λ e. ne (sym e))

pub fair_places_holds : (n b : ℕ) (others : List ℕ) (p q x x' y y' : ℕ) → length others ≡ b → Bits others → p < n → q < n → (p ≡ q → ⊥) →
    x < n → x' < n → (x ≡ x' → ⊥) → y < n → y' < n → (y ≡ y' → ⊥) →
    count b (λ mine. gives (λ ks. at_place n p x ks && at_place n q x' ks) (order n (add_bits others mine))) ≡
    count b (λ mine. gives (λ ks. at_place n p y ks && at_place n q y' ks) (order n (add_bits others mine)))
fair_places_holds zero b others p q x x' y y' e h hp hq pq hx hx' nx hy hy' ny = absurd (omega arith)
fair_places_holds (suc zero) b others p q x x' y y' e h hp hq pq hx hx' nx hy hy' ny = absurd (omega arith)
fair_places_holds (suc (suc n)) b others p q x x' y y' e h hp hq pq hx hx' nx hy hy' ny =
    by_tally (suc (suc n)) b others (λ ks. at_place (suc (suc n)) p x ks && at_place (suc (suc n)) q x' ks)
    (λ ks. at_place (suc (suc n)) p y ks && at_place (suc (suc n)) q y' ks) e h
    (pair_all n p q x x' hp hq pq hx hx' nx ∙ sym (pair_all n p q y y' hp hq pq hy hy' ny))
