-- Digits and numbers that are written are read again. Assumes nothing.
use Rattle.std.proofs.Common.{◌≡◌, ℕ, zero, suc, ◌+◌, ◌-◌, ◌*◌, ◌/◌, ◌%◌, ◌^◌, ◌<◌, ◌≤◌, Bool, true, false, cond, not, eqb, List, [], ◌∷◌, ◌++◌, length, Some, None, Option, get_or, take, drop, decimal, sym, refl, ap, ◌∙◌, arith, lit<}
use Rattle.std.proofs.lemmas.Fmt.{decimal_by_steps, decimal_nonempty}
use Rattle.std.proofs.lemmas.List.{get_or-drop, drop-drop, take_at, drop_at}
use Rattle.std.proofs.lemmas.Bool.{and_from, eq-eqb, ne_eqb}
use Rattle.std.proofs.lemmas.Bool.Decides.{nat_tests}
use Rattle.names_text.specs.Laws.{NoLess}
use Rattle.output.specs.Hex.{hex, hex_digit}
use Rattle.std.specs.Prelude.{option_and_then}
use Rattle.std.specs.Char.{is_ascii_hexdigit}
use Rattle.std.specs.List.{position_or_len, before_first, after_first}
use Rattle.notation.specs.Hex.{digit_value, all_digits, are_pairs, bytes_of}
use Rattle.notation.specs.Laws.{AreBytes}
use Rattle.notation.specs.Lines.{lines, without_return, onto_first}
use Rattle.notation.specs.Numbers.{digit_more, number_from, number}
use Rattle.notation.proofs.Digits.{number_some}

-- parts of bytes are bytes
pub bytes_take : (n : ℕ) (xs : List ℕ) → AreBytes xs → AreBytes (take n xs)
bytes_take zero xs h i = lit< tt
bytes_take (suc n) [] h i = lit< tt
bytes_take (suc n) (x ∷ xs) h zero = h 0
bytes_take (suc n) (x ∷ xs) h (suc i) = bytes_take n xs (λ j. h (suc j)) i

pub bytes_drop : (n : ℕ) (xs : List ℕ) → AreBytes xs → AreBytes (drop n xs)
bytes_drop n xs h i = omega (arith, get_or-drop n xs i 0, h (n + i))

-- one digit
digit_again : (d : ℕ) → d < 16 → (is_ascii_hexdigit (hex_digit d) ≡ true) × (digit_value (hex_digit d) ≡ d)
digit_again d l = (grind (arith, nat_tests), grind (arith, nat_tests))

pub hex_length : (x : List ℕ) → length (hex x) ≡ 2 * length x
unfolding hex
hex_length [] = refl
hex_length (b ∷ x) = omega (arith, hex_length x)

pub hex_digits : (x : List ℕ) → AreBytes x → all_digits (hex x) ≡ true
unfolding hex
hex_digits [] h = refl
hex_digits (b ∷ x) h =
    let l : b < 256 = h 0 in
    and_from _ _ (digit_again (b / 16) (omega arith)).0 (and_from _ _ (digit_again (b % 16) (omega arith)).0 (hex_digits x (λ i. h (suc i))))

pub hex_again : (x : List ℕ) → AreBytes x → bytes_of (hex x) ≡ x
unfolding hex bytes_of
hex_again [] h = refl
hex_again (b ∷ x) h =
    let l : b < 256 = h 0 in
    let u = (digit_again (b / 16) (omega arith)).1 in
    let v = (digit_again (b % 16) (omega arith)).1 in
    let w : 16 * digit_value (hex_digit (b / 16)) + digit_value (hex_digit (b % 16)) ≡ b = omega (arith, u, v) in
    ap (λ (n : ℕ). n ∷ bytes_of (hex x)) w ∙ ap (λ (z : List ℕ). b ∷ z) (hex_again x (λ i. h (suc i)))

pub hex_pairs : (x : List ℕ) → AreBytes x → are_pairs (hex x) ≡ true
hex_pairs x h = and_from _ _ (eq-eqb _ _ (omega (arith, hex_length x))) (hex_digits x h)

-- no byte below a bound
pub less_append : (low : ℕ) (xs ys : List ℕ) → NoLess low xs → NoLess low ys → NoLess low (xs ++ ys)
less_append low [] ys h k = k
less_append low (x ∷ xs) ys h k = (h.0, less_append low xs ys h.1 k)

pub less_lower : (low high : ℕ) (xs : List ℕ) → low ≤ high → NoLess high xs → NoLess low xs
less_lower low high [] l h = tt
less_lower low high (x ∷ xs) l h = (omega (arith, h.0), less_lower low high xs l h.1)

digit_high : (d : ℕ) → 48 ≤ hex_digit d
digit_high d = grind (arith, nat_tests)

pub hex_high : (x : List ℕ) → NoLess 48 (hex x)
unfolding hex
hex_high [] = tt
hex_high (b ∷ x) = (digit_high (b / 16), (digit_high (b % 16), hex_high x))

pub decimal_high : (n : ℕ) → n < 2 ^ 64 → NoLess 48 (decimal n)
decimal_high n l = decimal_by_steps (λ n ds. NoLess 48 ds) (λ n k. (omega arith, tt)) (λ n ds k h. less_append 48 ds ((48 + n % 10) ∷ []) h (omega arith, tt)) n l

-- numbers
some_same : (o : Option ℕ) → option_and_then (λ m. Some m) o ≡ o
some_same None = refl
some_same (Some m) = refl

number_push : (n : ℕ) (ds : List ℕ) (d : ℕ) → number_from n (ds ++ (d ∷ [])) ≡ option_and_then (λ m. digit_more m d) (number_from n ds)
unfolding number_from
number_push n [] d = some_same (digit_more n d)
number_push n (e ∷ ds) d = go (digit_more n e) (λ m. number_push m ds d)
  where
    go : (o : Option ℕ) → ((m : ℕ) → number_from m (ds ++ (d ∷ [])) ≡ option_and_then (λ m. digit_more m d) (number_from m ds))
        → option_and_then (λ m. number_from m (ds ++ (d ∷ []))) o ≡ option_and_then (λ m. digit_more m d) (option_and_then (λ m. number_from m ds) o)
    go None h = refl
    go (Some m) h = h m

digit_more_is : (m d : ℕ) → d < 10 → 10 * m + d < 65536 → digit_more m (48 + d) ≡ Some (10 * m + d)
digit_more_is m d l h = grind (arith, nat_tests)

number_from_decimal : (n : ℕ) → n < 2 ^ 64 → n < 65536 → number_from 0 (decimal n) ≡ Some n
unfolding number_from
number_from_decimal n l =
    decimal_by_steps (λ n ds. n < 65536 → number_from 0 ds ≡ Some n) (λ n k h. ap (option_and_then (λ m. Some m)) (digit_more_is 0 n k (omega arith)) ∙ ap Some (omega arith))
    (λ n ds k h s. number_push 0 ds (48 + n % 10) ∙ (ap (option_and_then (λ m. digit_more m (48 + n % 10))) (h (omega arith)) ∙ (digit_more_is (n / 10) (n % 10) (omega arith) (omega arith) ∙ ap Some (omega arith)))) n l

pub number_decimal : (n : ℕ) → n < 65536 → number (decimal n) ≡ Some n
number_decimal n l = sym (number_some (decimal n) (omega (arith, decimal_nonempty n (omega arith)))) ∙ number_from_decimal n (omega arith) l

-- a byte that stands behind greater ones
place_behind : (s : ℕ) (xs ys : List ℕ) → NoLess (suc s) xs → position_or_len (λ b. eqb b s) (xs ++ s ∷ ys) ≡ length xs
place_behind s [] ys h = let t : eqb s s ≡ true = eq-eqb s s refl in simp t
place_behind s (x ∷ xs) ys h =
    let t : eqb x s ≡ false = ne_eqb x s (λ e. omega (arith, h.0)) in
    ap (λ (b : Bool). cond (not b) (1 + position_or_len (λ b. eqb b s) (xs ++ s ∷ ys)) 0) t ∙ omega (arith, place_behind s xs ys h.1)

pub split_behind : (s : ℕ) (xs ys : List ℕ) → NoLess (suc s) xs
    → (before_first (λ b. eqb b s) (xs ++ s ∷ ys) ≡ xs) × (after_first (λ b. eqb b s) (xs ++ s ∷ ys) ≡ ys)
split_behind s xs ys h =
    let place = place_behind s xs ys h in
    (ap (λ k. take k (xs ++ s ∷ ys)) place ∙ take_at xs (s ∷ ys) (length xs) refl, ap (λ k. drop (k + 1) (xs ++ s ∷ ys)) place ∙ (sym (drop-drop 1 (length xs) (xs ++ s ∷ ys)) ∙ ap (drop 1) (drop_at xs (s ∷ ys) (length xs) refl)))

-- a line with no byte below 32
pub line_behind : (l rest : List ℕ) → NoLess 32 l → lines (l ++ 10 ∷ rest) ≡ l ∷ lines rest
unfolding lines
line_behind [] rest h = refl
line_behind (b ∷ l) rest h =
    let t : eqb b 10 ≡ false = ne_eqb b 10 (λ e. omega (arith, h.0)) in
    ap (λ (z : Bool). cond z ([] ∷ lines (l ++ 10 ∷ rest)) (onto_first b (lines (l ++ 10 ∷ rest)))) t ∙ ap (onto_first b) (line_behind l rest h.1)

high_at : (l : List ℕ) (i : ℕ) → NoLess 32 l → get_or l i 0 ≡ 13 → ⊥
high_at [] i h e = omega arith
high_at (b ∷ l) zero h e = omega (arith, h.0)
high_at (b ∷ l) (suc i) h e = high_at l i h.1 e

pub no_return : (l : List ℕ) → NoLess 32 l → without_return l ≡ l
no_return l h =
    let t : eqb (get_or l (length l - 1) 0) 13 ≡ false = ne_eqb _ _ (high_at l (length l - 1) h) in
    ap (λ (b : Bool). cond b (take (length l - 1) l) l) t
