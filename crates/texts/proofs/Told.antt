-- The words of an order tell the order. Assumes nothing.
use Rattle.std.proofs.Common.{◌≡◌, ℕ, ◌+◌, ◌%◌, ◌^◌, ◌<◌, ◌≤◌, List, [], ◌∷◌, ◌++◌, length, Some, None, codes, decimal, sym, refl, ap, arith}
use Rattle.std.specs.List.{AllByRecursion}
use Rattle.std.proofs.lemmas.Fmt.{decimal_by_steps, decimal_nonempty, decimal_injective}
use Rattle.std.proofs.ByRecursion.{All-push, All-weaker}
use Rattle.std.proofs.lemmas.List.{append_cancel_left, append_cancel_right}
use Rattle.texts.specs.Lines.{numbers, order_words, count_words}
use Rattle.texts.specs.Laws.{OrderTold, SummaryTold}

-- nothing follows, or the byte s does
abbrev Ended : ℕ → List ℕ → Type 0
Ended s [] = Unit {0}
Ended s (c ∷ cs) = c ≡ s

-- bytes above s end where s follows or nothing
parted : (s : ℕ) (a b p q : List ℕ) → AllByRecursion (λ c. s < c) a → AllByRecursion (λ c. s < c) b → Ended s p → Ended s q → a ++ p ≡ b ++ q → (a ≡ b) × (p ≡ q)
parted s [] [] p q i j u v e = (refl, e)
parted s [] (d ∷ b) [] q i j u v e = grind arith
parted s [] (d ∷ b) (c ∷ p) q i j u v e = grind arith
parted s (c ∷ a) [] p [] i j u v e = grind arith
parted s (c ∷ a) [] p (d ∷ q) i j u v e = grind arith
parted s (c ∷ a) (d ∷ b) p q i j u v e =
    let z : c ≡ d = cc in
    let rest : a ++ p ≡ b ++ q = cc in
    let r = parted s a b p q i.1 j.1 u v rest in
    let f = r.0 in
    (cc, r.1)

abbrev Digit : ℕ → Type 0
Digit c = (48 ≤ c) × (c < 58)

decimal_digits : (n : ℕ) → n < 2 ^ 64 → AllByRecursion Digit (decimal n)
decimal_digits = decimal_by_steps (λ _ ds. AllByRecursion Digit ds) (λ n h. ((omega arith, omega arith), tt)) (λ n ds h k. All-push Digit ds (48 + n % 10) k (omega arith, omega arith))

above_space : (ds : List ℕ) → AllByRecursion Digit ds → AllByRecursion (λ c. 32 < c) ds
above_space ds h = All-weaker Digit (λ c. 32 < c) (λ c d. omega arith) ds h

numbers_ended : (xs : List ℕ) → Ended 32 (numbers xs)
numbers_ended [] = tt
numbers_ended (x ∷ xs) = refl

numbers_told : (xs ys : List ℕ) → AllByRecursion (λ x. x < 2 ^ 64) xs → AllByRecursion (λ x. x < 2 ^ 64) ys → numbers xs ≡ numbers ys → xs ≡ ys
numbers_told [] [] i j e = refl
numbers_told [] (y ∷ ys) i j e = grind arith
numbers_told (x ∷ xs) [] i j e = grind arith
numbers_told (x ∷ xs) (y ∷ ys) i j e =
    let rest : decimal x ++ numbers xs ≡ decimal y ++ numbers ys = cc in
    let r = parted 32 (decimal x) (decimal y) (numbers xs) (numbers ys) (above_space _ (decimal_digits x i.0)) (above_space _ (decimal_digits y j.0))
    (numbers_ended xs) (numbers_ended ys) rest in
    let first = decimal_injective x y i.0 j.0 r.0 in
    let others = numbers_told xs ys i.1 j.1 r.1 in
    cc

-- a digit begins no word
not_a_word : (ds rest : List ℕ) → AllByRecursion Digit ds → 0 < length ds → ds ++ rest ≡ codes "none" → ⊥
not_a_word [] rest i l e = omega arith
not_a_word (d ∷ ds) rest i l e = grind arith

not_none : (xs : List ℕ) → AllByRecursion (λ x. x < 2 ^ 64) xs → numbers xs ≡ codes " none" → ⊥
not_none [] i e = grind arith
not_none (x ∷ xs) i e =
    let word : decimal x ++ numbers xs ≡ codes "none" = cc in
    not_a_word (decimal x) (numbers xs) (decimal_digits x i.0) (decimal_nonempty x i.0) word

pub order_told : OrderTold
order_told (Some xs) (Some ys) i j e = ap Some (numbers_told xs ys i j e)
order_told (Some xs) None i j e = absurd (not_none xs i e)
order_told None (Some ys) i j e = absurd (not_none ys j (sym e))
order_told None None i j e = refl

pub summary_told : SummaryTold
summary_told n P O a b i j e =
    order_told a b i j
    (append_cancel_right (order_words a) (order_words b) (codes "\n") (append_cancel_left (count_words n P O) (order_words a ++ codes "\n") (order_words b ++ codes "\n") e))
