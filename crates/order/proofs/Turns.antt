-- A turn of the recursion: one number drawn, and then the names left. Assumes nothing.
use Rattle.std.proofs.Common.{◌≡◌, ℕ, zero, suc, ◌+◌, ◌-◌, ◌<◌, List, [], ◌∷◌, length, get_or, sym, refl, ap, ◌∙◌, arith}
use Rattle.order.proofs.Names.{length_without, length_from, names_length}
use Rattle.order.specs.Drawings.{bits_read, Drawing, drawn, run_out, told, drawing_of, drawn_from}
use Rattle.order.specs.Orders.{Order, some, none, put, next, order, Valid, without, names, numbers_from, written, order_names}
use Rattle.uniform.proofs.Draws.{draw_below}
use Rattle.uniform.specs.Draws.{Drawn, got, out, draw}

-- an order is found in a row by its first draw, and then in what is left
pub record Found (n : ℕ) (bs ks : List ℕ) : Type 0 where
  pub first : ℕ
  pub left : List ℕ
  pub later : List ℕ
  pub drew : draw (suc (length bs)) (suc n) bs ≡ got first left
  pub found : order n left ≡ some later
  pub made : ks ≡ first ∷ later

pub order_parts : (n : ℕ) (bs ks : List ℕ) → order (suc n) bs ≡ some ks → Found n bs ks
unfolding order next put
order_parts n bs ks e = go (draw (suc (length bs)) (suc n) bs) refl
  where
    rest_of : (k : ℕ) (rest : List ℕ) (o : Order) → draw (suc (length bs)) (suc n) bs ≡ got k rest → order n rest ≡ o → put k o ≡ some ks → Found n bs ks
    rest_of k rest (some xs) d o e = record { first = k; left = rest; later = xs; drew = d; found = o; made = cc }
    rest_of k rest none d o e = let z : ◌≡◌ {A = ℕ} 0 1 = cc in absurd (omega arith)

    go : (d : Drawn) → draw (suc (length bs)) (suc n) bs ≡ d → Found n bs ks
    go (got k rest) d = rest_of k rest (order n rest) d refl (ap (next (λ r. order n r)) (sym d) ∙ e)
    go out d = let x = ap (next (λ r. order n r)) (sym d) ∙ e in let z : ◌≡◌ {A = ℕ} 0 1 = cc in absurd (omega arith)

-- what is found is an order
pub order_valid : (n : ℕ) (bs ks : List ℕ) → order n bs ≡ some ks → Valid n ks
unfolding order Valid
order_valid zero bs [] e = tt
order_valid zero bs (k ∷ ks) e = let z : ◌≡◌ {A = ℕ} 0 1 = cc in absurd (omega arith)
order_valid (suc n) bs ks e =
    let p = order_parts n bs ks e in
    rw p.made (draw_below (suc (length bs)) (suc n) bs p.first p.left p.drew, order_valid n p.left p.later p.found)

-- a drawing whose first name is x, from j bits
unfoldable pub with_first : ℕ → ℕ → Drawing → Drawing
with_first x j (drawn ns used) = drawn (x ∷ ns) (j + used)
with_first x j run_out = run_out

pub drawing_none : (ls bs : List ℕ) → length ls ≡ 0 → drawing_of ls bs ≡ drawn [] 0
unfolding drawing_of written order names bits_read
drawing_none [] bs e = refl
drawing_none (x ∷ ls) bs e = absurd (omega arith)

pub drawing_out : (ls bs : List ℕ) → 0 < length ls → draw (suc (length bs)) (length ls) bs ≡ out → drawing_of ls bs ≡ run_out
unfolding drawing_of written order next
drawing_out [] bs h e = absurd (omega arith)
drawing_out (x ∷ ls) bs h e = rw e

pub drawing_got : (ls bs : List ℕ) (k : ℕ) (rest : List ℕ) → k < length ls → draw (suc (length bs)) (length ls) bs ≡ got k rest
    → drawing_of ls bs ≡ with_first (get_or ls k 0) (length bs - length rest) (drawing_of (without k ls) rest)
unfolding drawing_of order next bits_read
drawing_got [] bs k rest l e = absurd (omega arith)
drawing_got (x ∷ ls) bs k rest l e =
    let n : length (without k (x ∷ ls)) ≡ length ls = omega (arith, length_without k (x ∷ ls) l) in
    rw (e, n) (go (order (length ls) rest))
  where
    go : (o : Order)
        → told (written (x ∷ ls) (put k o)) ((length bs - length rest) + bits_read (length ls) rest)
        ≡ with_first (get_or (x ∷ ls) k 0) (length bs - length rest) (told (written (without k (x ∷ ls)) o) (bits_read (length ls) rest))
    go (some ks) = unfold written put names with_first in refl
    go none = unfold written put with_first in refl

-- the drawing of the names 0 to n - 1
pub drawing_numbers : (n : ℕ) (bs : List ℕ) → drawing_of (numbers_from 0 n) bs ≡ drawn_from n bs
unfolding drawing_of drawn_from order_names
drawing_numbers n bs = rw (length_from 0 n)

-- the names of a drawing are as many as were asked for
pub drawing_length : (ls bs ns : List ℕ) (used : ℕ) → drawing_of ls bs ≡ drawn ns used → length ns ≡ length ls
unfolding drawing_of
drawing_length ls bs ns used e = go (order (length ls) bs) refl
  where
    go : (o : Order) → order (length ls) bs ≡ o → length ns ≡ length ls
    go (some ks) d =
        let x : drawn (names ls ks) (bits_read (length ls) bs) ≡ drawn ns used = unfold written in ap (λ z. told (written ls z) (bits_read (length ls) bs)) (sym d) ∙ e in
        let y : names ls ks ≡ ns = cc in
        ap length (sym y) ∙ names_length (length ls) ls ks (order_valid (length ls) bs ks d)
    go none d =
        let x : run_out ≡ drawn ns used = unfold written in ap (λ z. told (written ls z) (bits_read (length ls) bs)) (sym d) ∙ e in
        let z : ◌≡◌ {A = ℕ} 0 1 = cc in absurd (omega arith)
