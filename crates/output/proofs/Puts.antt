-- Laws of writing. Assumes nothing.
use Rattle.std.proofs.Common.{◌≡◌, ℕ, zero, suc, get_or, ◌+◌, ◌-◌, ◌<◌, ◌≤◌, min, List, [], ◌∷◌, ◌++◌, length, take, drop, set, sym, refl, ap, ◌∙◌, ⊎_elim, zero-add, arith, take-append-drop}
use Rattle.std.proofs.Math.Seq.{paste, paste-suc, take-suc}
use Rattle.std.proofs.lemmas.List.Edits.{paste_none, length-paste}
use Rattle.std.proofs.lemmas.List.{drop_all, length-take-le, take_all, take_at}
use Rattle.std.proofs.lemmas.Bool.{cases_lt, cond_below, cond_above}
use Rattle.output.specs.Output.{put, put_byte}

-- two rows one after the other
pub put_append : (m : List ℕ × ℕ) (xs ys : List ℕ) → put m (xs ++ ys) ≡ put (put m xs) ys
unfolding put
put_append m [] ys = refl
put_append m (x ∷ xs) ys = put_append (put_byte m x) xs ys

pub put_none : (m : List ℕ × ℕ) → put m [] ≡ m
unfolding put
put_none m = refl

-- one byte where there is room, and bytes where there is none
pub put_one : (m : List ℕ) (at b : ℕ) → at < length m → put (m, at) (b ∷ []) ≡ (set m at b, at + 1)
unfolding put
put_one m at b l = sym (cond_below at (length m) (set m at b, at + 1) (m, at) l)

pub put_full : (m : List ℕ) (at : ℕ) (bs : List ℕ) → length m ≤ at → put (m, at) bs ≡ (m, at)
unfolding put
put_full m at [] l = refl
put_full m at (b ∷ bs) l = ap (λ (z : List ℕ × ℕ). put z bs) (sym (cond_above at (length m) (set m at b, at + 1) (m, at) (m, at) l refl)) ∙ put_full m at bs l

-- as many bytes as fit
pub put_taken : (m : List ℕ) (at : ℕ) (bs : List ℕ) (n : ℕ) → at + n ≤ length m → n ≤ length bs → put (m, at) (take n bs) ≡ (paste m at bs n, at + n)
unfolding put
put_taken m at bs zero l k = (λ i. (paste_none m at bs i, sum i))
  where
    sum : at ≡ at + 0
    sum = omega arith
put_taken m at bs (suc n) l k =
    ap (put (m, at)) (take-suc bs n 0 k)
    ∙ (put_append (m, at) (take n bs) (b ∷ [])
    ∙ (ap (λ (z : List ℕ × ℕ). put z (b ∷ [])) (put_taken m at bs n (omega arith) (omega arith))
    ∙ (put_one (paste m at bs n) (at + n) b (omega (arith, length-paste m at bs n (omega arith) (omega arith))) ∙ (λ i. (paste-suc m at bs n 0 (omega arith) k i, sum i)))))
  where
    b : ℕ
    b = get_or bs n 0

    sum : at + n + 1 ≡ at + suc n
    sum = omega arith

pub put_fits : (m : List ℕ) (at : ℕ) (bs : List ℕ) (n : ℕ) → n ≡ length bs → at + n ≤ length m → put (m, at) bs ≡ (paste m at bs n, at + n)
put_fits m at bs n e l = ap (put (m, at)) (sym (take_all n bs (omega arith))) ∙ put_taken m at bs n l (omega arith)

-- as many bytes as there is room for
pub put_front : (m : List ℕ) (at : ℕ) (bs : List ℕ) (n : ℕ) → at ≤ length m → n ≡ min (length bs) (length m - at)
    → put (m, at) bs ≡ (paste m at (take n bs) n, at + n)
put_front m at bs n l e = ap (put (m, at)) (sym (take-append-drop n bs)) ∙ (put_append (m, at) (take n bs) (drop n bs) ∙ (ap (λ (z : List ℕ × ℕ). put z (drop n bs)) front ∙ rest))
  where
    long : length (take n bs) ≡ n
    long = length-take-le n bs (omega arith)

    front : put (m, at) (take n bs) ≡ (paste m at (take n bs) n, at + n)
    front = put_fits m at (take n bs) n (sym long) (omega arith)

    kept : length (paste m at (take n bs) n) ≡ length m
    kept = length-paste m at (take n bs) n (omega arith) (omega (arith, long))

    rest : put (paste m at (take n bs) n, at + n) (drop n bs) ≡ (paste m at (take n bs) n, at + n)
    rest = ⊎_elim
        (λ l2. put_full _ _ (drop n bs) (omega (arith, kept)))
        (λ l2. ap (put (paste m at (take n bs) n, at + n)) (drop_all n bs l2) ∙ put_none _)
        (cases_lt n (length bs))

-- what fits stands at the front of the memory
pub fitting : (m bs : List ℕ) → length bs ≤ length m → (take (length bs) (put (m, 0) bs).0 ≡ bs) × ((put (m, 0) bs).1 ≡ length bs)
fitting m bs l = (ap (λ (z : List ℕ × ℕ). take (length bs) z.0) is ∙ front, ap (λ (z : List ℕ × ℕ). z.1) is ∙ zero-add (length bs))
  where
    is : put (m, 0) bs ≡ (paste m 0 bs (length bs), 0 + length bs)
    is = put_fits m 0 bs (length bs) refl (omega arith)

    front : take (length bs) (paste m 0 bs (length bs)) ≡ bs
    front = take_at (take (length bs) bs) (drop (0 + length bs) m) (length bs) (length-take-le (length bs) bs (omega arith)) ∙ take_all (length bs) bs (omega arith)

-- where the next place is before the end, nothing was lost
pub told : (m bs : List ℕ) → (put (m, 0) bs).1 < length m → (put (m, 0) bs).1 ≡ length bs
told m bs l = omega (arith, place)
  where
    place : (put (m, 0) bs).1 ≡ 0 + min (length bs) (length m - 0)
    place = ap (λ (z : List ℕ × ℕ). z.1) (put_front m 0 bs (min (length bs) (length m - 0)) (omega arith) refl)
