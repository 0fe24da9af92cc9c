-- As many orders have a property as have it after renaming. Assumes nothing.
use Rattle.std.proofs.Common.{◌≡◌, ℕ, zero, suc, ◌+◌, ◌<◌, Bool, cond, List, [], ◌∷◌, length, get_or, sym, refl, ap, ◌∙◌, subst, ap₂, arith}
use Rattle.counting.proofs.Arrangements.{row_of, row_valid, row_names}
use Rattle.counting.proofs.Totals.{total_ext, total_shift}
use Rattle.counting.specs.Counting.{total, tally}
use Rattle.counting.specs.Draws.{renamed}
use Rattle.counting.specs.Orders.{Arrangement}
use Rattle.order.proofs.Names.{length_without, length_from}
use Rattle.order.specs.Orders.{Valid, without, names, numbers_from}

-- lists that hold the same, in another order
data Turned : List ℕ → List ℕ → Type 0 where
  empty : Turned [] []
  keep : {x : ℕ} {l m : List ℕ} → Turned l m → Turned (x ∷ l) (x ∷ m)
  swap : {x y : ℕ} {l : List ℕ} → Turned (x ∷ y ∷ l) (y ∷ x ∷ l)
  both : {l m k : List ℕ} → Turned l m → Turned m k → Turned l k

turned_refl : (l : List ℕ) → Turned l l
turned_refl [] = empty
turned_refl (x ∷ l) = keep (turned_refl l)

turned_length : {l m : List ℕ} → Turned l m → length l ≡ length m
turned_length empty = refl
turned_length (keep t) = ap suc (turned_length t)
turned_length swap = refl
turned_length (both t u) = turned_length t ∙ turned_length u

to_front : (k : ℕ) (ls : List ℕ) → k < length ls → Turned ls (get_or ls k 0 ∷ without k ls)
unfolding without
to_front k [] h = absurd (omega arith)
to_front zero (x ∷ xs) h = turned_refl (x ∷ xs)
to_front (suc k) (x ∷ xs) h = both (keep (to_front k xs (omega arith))) swap

turned_names : (n : ℕ) (ls ks : List ℕ) → Valid n ks → length ls ≡ n → Turned ls (names ls ks)
unfolding Valid names
turned_names zero [] [] v e = empty
turned_names zero (x ∷ ls) [] v e = absurd (omega arith)
turned_names zero ls (k ∷ ks) v e = absurd v
turned_names (suc n) ls [] v e = absurd v
turned_names (suc n) ls (k ∷ ks) v e =
    let h : k < length ls = omega arith in
    both (to_front k ls h) (keep (turned_names n (without k ls) ks v.1 (omega (arith, length_without k ls h))))

-- the sum over each element, and what is left without it
choose : List ℕ → (ℕ → List ℕ → ℕ) → ℕ
choose [] f = 0
choose (x ∷ l) f = f x l + choose l (λ y r. f y (x ∷ r))

total_choose : (l : List ℕ) (f : ℕ → List ℕ → ℕ) → total 0 (length l) (λ k. f (get_or l k 0) (without k l)) ≡ choose l f
unfolding total choose without
total_choose [] f = refl
total_choose (x ∷ l) f =
    ap (λ z. f x l + z) (total_shift 0 (length l) (λ k. f (get_or (x ∷ l) k 0) (without k (x ∷ l))) ∙ total_choose l (λ y r. f y (x ∷ r)))

choose_ext : (l : List ℕ) (f g : ℕ → List ℕ → ℕ) → ((y : ℕ) (r : List ℕ) → suc (length r) ≡ length l → f y r ≡ g y r) → choose l f ≡ choose l g
unfolding choose
choose_ext [] f g h = refl
choose_ext (x ∷ l) f g h = ap₂ ◌+◌ (h x l refl) (choose_ext l (λ y r. f y (x ∷ r)) (λ y r. g y (x ∷ r)) (λ y r e. h y (x ∷ r) (ap suc e)))

-- f doesn't see the order of what is left
abbrev Blind : ℕ → (ℕ → List ℕ → ℕ) → Type 0
Blind n f = (y : ℕ) (r s : List ℕ) → suc (length r) ≡ n → Turned r s → f y r ≡ f y s

exchange : (a b c d : ℕ) → c ≡ d → a + (b + c) ≡ b + (a + d)
exchange a b c d e = omega arith

choose_turned : {l m : List ℕ} (t : Turned l m) (f : ℕ → List ℕ → ℕ) → Blind (length l) f → choose l f ≡ choose m f
unfolding choose
choose_turned empty f h = refl
choose_turned (keep {x = x} {l = l} {m = m} t) f h =
    ap₂ ◌+◌ (h x l m refl t) (choose_turned t (λ y r. f y (x ∷ r)) (λ y r s e u. h y (x ∷ r) (x ∷ s) (ap suc e) (keep u)))
choose_turned (swap {x = x} {y = y} {l = l}) f h =
    exchange (f x (y ∷ l)) (f y (x ∷ l)) (choose l (λ z r. f z (x ∷ y ∷ r))) (choose l (λ z r. f z (y ∷ x ∷ r)))
    (choose_ext l (λ z r. f z (x ∷ y ∷ r)) (λ z r. f z (y ∷ x ∷ r)) (λ z r e. h z (x ∷ y ∷ r) (y ∷ x ∷ r) (ap (λ i. suc (suc i)) e) swap))
choose_turned (both t u) f h = choose_turned t f h ∙ choose_turned u f (λ y r s e v. h y r s (e ∙ sym (turned_length t)) v)

tally_choose : (n : ℕ) (l : List ℕ) (G : List ℕ → Bool) → length l ≡ suc n → tally (suc n) (λ ks. G (names l ks)) ≡ choose l (λ y r. tally n (λ ks. G (y ∷ names r ks)))
unfolding tally names
tally_choose n l G e =
    ap (λ z. total 0 z (λ k. tally n (λ ks. G (get_or l k 0 ∷ names (without k l) ks)))) (sym e) ∙ total_choose l (λ y r. tally n (λ ks. G (y ∷ names r ks)))

tally_turned : (n : ℕ) (l m : List ℕ) (G : List ℕ → Bool) → length l ≡ n → Turned l m → tally n (λ ks. G (names l ks)) ≡ tally n (λ ks. G (names m ks))
tally_turned zero l m G e t = unfold tally names in refl
tally_turned (suc n) l m G e t =
    tally_choose n l G e
    ∙ choose_turned t (λ y r. tally n (λ ks. G (y ∷ names r ks))) (λ y r s d u. tally_turned n r s (λ xs. G (y ∷ xs)) (omega arith) u)
    ∙ sym (tally_choose n m G (sym (turned_length t) ∙ e))

tally_valid : (n : ℕ) (F G : List ℕ → Bool) → ((ks : List ℕ) → Valid n ks → F ks ≡ G ks) → tally n F ≡ tally n G
unfolding tally Valid
tally_valid zero F G h = ap (λ (p : Bool). cond p 1 0) (h [] tt)
tally_valid (suc n) F G h =
    total_ext 0 (suc n) (λ k. tally n (λ ks. F (k ∷ ks))) (λ k. tally n (λ ks. G (k ∷ ks)))
    (λ k l. tally_valid n (λ ks. F (k ∷ ks)) (λ ks. G (k ∷ ks)) (λ ks v. h (k ∷ ks) (omega arith, v)))

renamed_at : (r ls : List ℕ) (k : ℕ) → k < length ls → get_or (renamed r ls) k 0 ≡ get_or r (get_or ls k 0) 0
unfolding renamed
renamed_at r [] k h = absurd (omega arith)
renamed_at r (x ∷ ls) zero h = refl
renamed_at r (x ∷ ls) (suc k) h = renamed_at r ls k (omega arith)

renamed_without : (r ls : List ℕ) (k : ℕ) → without k (renamed r ls) ≡ renamed r (without k ls)
unfolding renamed without
renamed_without r [] k = refl
renamed_without r (x ∷ ls) zero = refl
renamed_without r (x ∷ ls) (suc k) = ap (λ z. get_or r x 0 ∷ z) (renamed_without r ls k)

renamed_names : (n : ℕ) (r ls ks : List ℕ) → Valid n ks → length ls ≡ n → names (renamed r ls) ks ≡ renamed r (names ls ks)
unfolding Valid names renamed
renamed_names zero r ls [] v e = refl
renamed_names zero r ls (k ∷ ks) v e = absurd v
renamed_names (suc n) r ls [] v e = absurd v
renamed_names (suc n) r ls (k ∷ ks) v e =
    let h : k < length ls = omega arith in
    ap₂ ◌∷◌ (renamed_at r ls k h)
    (ap (λ z. names z ks) (renamed_without r ls k) ∙ renamed_names n r (without k ls) ks v.1 (omega (arith, length_without k ls h)))

renamed_shift : (x s n : ℕ) (r : List ℕ) → renamed (x ∷ r) (numbers_from (suc s) n) ≡ renamed r (numbers_from s n)
unfolding renamed numbers_from
renamed_shift x s zero r = refl
renamed_shift x s (suc n) r = ap (λ z. get_or r s 0 ∷ z) (renamed_shift x (suc s) n r)

renamed_all : (n : ℕ) (r : List ℕ) → length r ≡ n → renamed r (numbers_from 0 n) ≡ r
unfolding renamed numbers_from
renamed_all zero [] e = refl
renamed_all zero (x ∷ r) e = absurd (omega arith)
renamed_all (suc n) [] e = absurd (omega arith)
renamed_all (suc n) (x ∷ r) e = ap (λ z. x ∷ z) (renamed_shift x 0 n r ∙ renamed_all n r (omega arith))

pub tally_renamed : (n : ℕ) (r : List ℕ) (G : List ℕ → Bool) → Arrangement n r →
    tally n (λ ks. G (names (numbers_from 0 n) ks)) ≡ tally n (λ ks. G (renamed r (names (numbers_from 0 n) ks)))
tally_renamed n r G a =
    tally_turned n (numbers_from 0 n) r G (length_from 0 n) (subst (Turned (numbers_from 0 n)) (row_names n r a) (turned_names n (numbers_from 0 n) (row_of n r a) (row_valid n r a) (length_from 0 n)))
    ∙ ap (λ z. tally n (λ ks. G (names z ks))) (sym (renamed_all n r (unfold Arrangement in a.0)))
    ∙ tally_valid n (λ ks. G (names (renamed r (numbers_from 0 n)) ks)) (λ ks. G (renamed r (names (numbers_from 0 n) ks)))
    (λ ks v. ap G (renamed_names n r (numbers_from 0 n) ks v (length_from 0 n)))
