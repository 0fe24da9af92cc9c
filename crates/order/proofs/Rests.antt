-- What a turn of the recursion answers and leaves, from what it is answered and left for the names behind the first. Assumes nothing.
use borrow.Rule.Slice.PartMut.{put_mid, put_same}
use Rattle.std.proofs.Common.{◌≡◌, ℕ, suc, ◌+◌, ◌-◌, ◌^◌, ◌<◌, List, [], ◌∷◌, ◌++◌, length, get_or, take, drop, set, Some, None, Option, sym, refl, ap, ◌∙◌, subst, append-nil, add-zero, arith}
use Rattle.order.proofs.Names.{length_without}
use Rattle.order.proofs.Turns.{with_first, drawing_none, drawing_out, drawing_got, drawing_length}
use Rattle.order.specs.Drawings.{Drawing, drawn, run_out, drawing_of, place_after, left_in}
use Rattle.order.specs.Orders.{without}
use Rattle.std.proofs.lemmas.List.{drop_all, length-drop, length-take-le}
use Rattle.uniform.proofs.Places.{from_none, from_some}
use Rattle.uniform.specs.Draws.{got, draw, drawn_at}

-- the part behind the first place, written back
back : (m : ℕ) (here ys : List ℕ) → length here ≡ suc m → put_mid 1 m here ys ≡ get_or here 0 0 ∷ ys
back m [] ys e = absurd (omega arith)
back m (x ∷ xs) ys e = ap (λ z. x ∷ (ys ++ z)) (drop_all m xs (omega arith)) ∙ ap (λ z. x ∷ z) (append-nil ys)

-- an answer tells the drawing
pub told_none : (next : ℕ) (d : Drawing) → None ≡ place_after next d → d ≡ run_out
told_none next (drawn ns used) h = let z : ◌≡◌ {A = ℕ} 0 1 = cc in absurd (omega arith)
told_none next run_out h = refl

pub told_some : (next : ℕ) (d : Drawing) (end : ℕ) → Some end ≡ place_after next d → (ns : List ℕ) × (used : ℕ) × (d ≡ drawn ns used) × (end ≡ next + used)
told_some next (drawn ns used) end h = (ns, used, refl, cc)
told_some next run_out end h = let z : ◌≡◌ {A = ℕ} 0 1 = cc in absurd (omega arith)

-- what is answered, and what is left in the slice
abbrev pub Answer : Drawing → ℕ → List ℕ → Option ℕ → List ℕ → Type 0
Answer d from here r there = (r ≡ place_after from d) × (there ≡ left_in d here)

-- a drawing that has run out leaves what stood there; one of names for each place leaves those names
pub left_out : (d : Drawing) (here there : List ℕ) → d ≡ run_out → there ≡ left_in d here → there ≡ here
left_out d here there o e = e ∙ ap (λ z. left_in z here) o

pub left_names : (d : Drawing) (here there ns : List ℕ) (used : ℕ) → d ≡ drawn ns used → length ns ≡ length here → there ≡ left_in d here → there ≡ ns
left_names d here there ns used o l e =
    e ∙ ap (λ z. left_in z here) o ∙ ap (λ z. ns ++ z) (drop_all (length ns) here (omega arith)) ∙ append-nil ns

module _ (all ls here : List ℕ) (from : ℕ) (each : length ls ≡ length here) where
  abbrev whole : Drawing
  whole = drawing_of ls (drop from all)

  pub no_names : length here ≡ 0 → Answer whole from here (Some from) here
  no_names e =
      subst (λ d. Answer d from here (Some from) here) (sym (drawing_none ls (drop from all) (each ∙ e))) (ap Some (sym (add-zero from)), refl)

  pub first_out : 0 < length here → length all < 2 ^ 64 → None ≡ drawn_at all from (length here) → Answer whole from here None here
  first_out pos fits e =
      let d : None ≡ drawn_at all from (length ls) = e ∙ ap (drawn_at all from) (sym each) in
      subst (λ z. Answer z from here None here)
      (sym (drawing_out ls (drop from all) (omega arith) (from_none all from (length ls) fits (sym d)))) (refl, refl)

-- name k is drawn first, and then those left, from the place `next` on
module _ (all ls names-left here : List ℕ) (from k next : ℕ) (each : length ls ≡ length here) (pos : 0 < length here) (fits : length all < 2 ^ 64)
    (d : Some (k, next) ≡ drawn_at all from (length here)) (is_left : names-left ≡ without k ls) where
  abbrev fewer : ℕ
  fewer = length here - 1

  abbrev lent : List ℕ
  lent = take fewer (drop 1 here)

  abbrev later : Drawing
  later = drawing_of names-left (drop next all)

  drawn_first : (k < length ls) × (draw (suc (length (drop from all))) (length ls) (drop from all) ≡ got k (drop next all)) × (next ≡ from + (length (drop from all) - length (drop next all)))
  drawn_first = from_some all from (length ls) k next (omega arith) fits (sym (d ∙ ap (drawn_at all from) (sym each)))

  turn : drawing_of ls (drop from all) ≡ with_first (get_or ls k 0) (next - from) later
  turn =
      let j : length (drop from all) - length (drop next all) ≡ next - from = omega (arith, drawn_first.2) in
      drawing_got ls (drop from all) k (drop next all) drawn_first.0 drawn_first.1
      ∙ ap (λ z. with_first (get_or ls k 0) z (drawing_of (without k ls) (drop next all))) j
      ∙ ap (λ z. with_first (get_or ls k 0) (next - from) (drawing_of z (drop next all))) (sym is_left)

  length_left : length names-left ≡ length lent
  length_left =
      omega (arith, ap length is_left, length_without k ls drawn_first.0, length-take-le fewer (drop 1 here) (omega (arith, length-drop 1 here)))

  pub later_out : (there : List ℕ) → Answer later next lent None there → Answer (drawing_of ls (drop from all)) from here None (put_mid 1 fewer here there)
  unfolding with_first
  later_out there a =
      let o : later ≡ run_out = told_none next later a.0 in
      subst (λ z. Answer z from here None (put_mid 1 fewer here there)) (sym (turn ∙ ap (with_first (get_or ls k 0) (next - from)) o))
      (refl, ap (put_mid 1 fewer here) (left_out later lent there o a.1) ∙ put_same 1 fewer here)

  pub later_drawn : (there : List ℕ) (end name : ℕ) → name ≡ get_or ls k 0 → Answer later next lent (Some end) there
      → Answer (drawing_of ls (drop from all)) from here (Some end) (set (put_mid 1 fewer here there) 0 name)
  unfolding with_first
  later_drawn there end name x a =
      let t = told_some next later end a.0 in
      let ns = t.0 in
      let l : length ns ≡ length lent = drawing_length names-left (drop next all) ns t.1 t.2 ∙ length_left in
      let n : there ≡ ns = left_names later lent there ns t.1 t.2 l a.1 in
      let p : end ≡ from + ((next - from) + t.1) = omega (arith, t.3, drawn_first.2) in
      let q : drop (suc (length ns)) here ≡ [] = drop_all (suc (length ns)) here (omega (arith, length-take-le fewer (drop 1 here) (omega (arith, length-drop 1 here)))) in
      let w : set (put_mid 1 fewer here there) 0 name ≡ get_or ls k 0 ∷ ns = ap (λ z. set z 0 name) (back fewer here there (omega arith)) ∙ ap (λ z. z ∷ there) x ∙ ap (λ z. get_or ls k 0 ∷ z) n in
      subst (λ z. Answer z from here (Some end) (set (put_mid 1 fewer here there) 0 name)) (sym (turn ∙ ap (with_first (get_or ls k 0) (next - from)) t.2))
      (ap Some p, w ∙ sym (ap (λ z. get_or ls k 0 ∷ (ns ++ z)) q ∙ ap (λ z. get_or ls k 0 ∷ z) (append-nil ns)))
