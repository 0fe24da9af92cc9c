-- A name taken out of a row in place. Assumes nothing.
use borrow.Rule.Slice.PartMut.{put_mid}
use Rattle.std.proofs.Common.{zero-le, zero-add, one-add, ◌≡◌, ℕ, zero, suc, ◌+◌, ◌-◌, ◌<◌, List, [], ◌∷◌, ◌++◌, length, take, drop, sym, refl, ap, ◌∙◌, subst, append-nil, add-one, arith}
use Rattle.order.proofs.Names.{length_without}
use Rattle.std.proofs.Math.Seq.{take-append-add}
use Rattle.order.specs.Orders.{without}
use Rattle.std.specs.List.{copy_within}
use Rattle.std.proofs.lemmas.List.{length-take-le, length-drop, drop-drop, drop_all, take_rest, take_all}
use Rattle.std.proofs.lemmas.List.Edits.{take-paste}

-- a list without its element k: what stands before it and what stands behind it
without_split : (k : ℕ) (xs : List ℕ) → without k xs ≡ take k xs ++ drop (suc k) xs
unfolding without
without_split zero [] = refl
without_split (suc k) [] = refl
without_split zero (x ∷ xs) = refl
without_split (suc k) (x ∷ xs) = ap (λ z. x ∷ z) (without_split k xs)

closed : (k : ℕ) (xs tail : List ℕ) → k < length xs → take (length (drop k xs) - 1) tail ≡ drop 1 (drop k xs)
    → take (length xs - 1) (take k xs ++ tail) ≡ without k xs
closed k xs tail h e =
    let m = length (drop k xs) - 1 in
    let p : length xs - 1 ≡ length (take k xs) + m = omega (arith, length-drop k xs, length-take-le k xs (omega arith)) in
    ap (λ j. take j (take k xs ++ tail)) p ∙ take-append-add (take k xs) tail m
    ∙ ap (λ z. take k xs ++ z) (e ∙ drop-drop 1 k xs ∙ ap (λ j. drop j xs) (add-one k)) ∙ sym (without_split k xs)

-- the names behind the first, copied to the front
pub front_moved : (xs now : List ℕ) → now ≡ copy_within xs 1 (length xs) 0 → take (length xs - 1) now ≡ drop 1 xs
front_moved xs now e =
    let m = length xs - 1 in
    ap (λ z. take z now) (sym (zero-add m)) ∙ ap (take (0 + m)) e ∙ take-paste xs 0 (drop 1 xs) m zero-le (omega (arith, length-drop 1 xs))
    ∙ take_all m (drop 1 xs) (omega (arith, length-drop 1 xs))

-- the names behind place k, copied to the front by one
pub gap_closed : (k : ℕ) (xs tail : List ℕ) → k < length xs → tail ≡ copy_within (take (length xs - k) (drop k xs)) 1 (length (take (length xs - k) (drop k xs))) 0
    → take (length xs - 1) (put_mid k (length xs - k) xs tail) ≡ without k xs
gap_closed k xs tail h e =
    let r = take_rest xs k in
    let p : drop (length xs - k) (drop k xs) ≡ [] = drop_all (length xs - k) (drop k xs) (omega (arith, length-drop k xs)) in
    ap (λ z. take (length xs - 1) (take k xs ++ z)) (ap (λ z. tail ++ z) p ∙ append-nil tail)
    ∙ closed k xs tail h (subst (λ z. take (length z - 1) tail ≡ drop 1 z) r (front_moved (take (length xs - k) (drop k xs)) tail e))

-- the names before place k, copied back by one
pub gap_opened : (k : ℕ) (xs now : List ℕ) → k < length xs → now ≡ copy_within xs 0 k 1 → length now ≡ length xs → take (length now - 1) (drop 1 now) ≡ without k xs
gap_opened k [] now h e l = absurd (omega arith)
gap_opened k (x ∷ xs) now h e l =
    let z : k - 0 ≡ k = omega arith in
    let w : drop 1 now ≡ without k (x ∷ xs) =
    ap (drop 1) e ∙ ap (λ j. take j (x ∷ xs) ++ drop (1 + j) (x ∷ xs)) z ∙ ap (λ j. take k (x ∷ xs) ++ drop j (x ∷ xs)) (one-add k) ∙ sym (without_split k (x ∷ xs)) in
    ap (take (length now - 1)) w ∙ take_all (length now - 1) (without k (x ∷ xs)) (omega (arith, length_without k (x ∷ xs) h))
