-- A draw from a place on: the turns of the loop, and its answers. Assumes nothing.
use Rattle.std.proofs.Common.{◌≡◌, ℕ, zero, suc, ◌+◌, ◌-◌, ◌^◌, ◌<◌, ◌≤◌, ◌⊎◌, List, length, drop, Some, None, Option, sym, refl, ap, ◌∙◌, ap₂, inl, inr, arith, length-append}
use Rattle.std.proofs.lemmas.List.{length-drop, drop-drop, drop_at}
use Rattle.std.proofs.lemmas.Bool.{lt-ltb, le-ltb, cases_lt}
use Rattle.uniform.proofs.Draws.{draw_short, draw_got, draw_again, draw_below, draw_reads, wide}
use Rattle.uniform.specs.Draws.{width, number, Drawn, got, out, draw, placed, drawn_at}

-- a turn of the loop reads v from w bits at a place
module _ (n w place v : ℕ) (all : List ℕ) (is_w : w ≡ width n) (is_v : v ≡ number w 0 (drop place all)) (room : w ≤ length all - place) where
  value : v ≡ number (width n) 0 (drop place all)
  value = is_v ∙ ap (λ j. number j 0 (drop place all)) is_w

  rest : drop (width n) (drop place all) ≡ drop (place + w) all
  rest = drop-drop (width n) place all ∙ ap (λ j. drop (place + j) all) (sym is_w)

  long : width n ≤ length (drop place all)
  long = omega (arith, length-drop place all)

  -- below n, it is drawn
  pub turn_got : (f : ℕ) → length all - place < f → v < n → draw f n (drop place all) ≡ got v (drop (place + w) all)
  turn_got zero l h = absurd (omega arith)
  turn_got (suc f) l h = draw_got f n (drop place all) long (omega (arith, value)) ∙ simp (sym value, rest)

  -- a number that is thrown away has bits
  pub turn_reads : 0 < n → n ≤ v → 0 < w
  turn_reads p h = omega (arith, wide n (drop place all) p long (omega (arith, value)))

  -- else the draw goes on behind it, in a step less
  pub turn_again : (f : ℕ) (answer : Drawn) → draw f n (drop place all) ≡ answer → 0 < n → length all - place < f → n ≤ v
      → (g : ℕ) × (length all - (place + w) < g) × (draw g n (drop (place + w) all) ≡ answer)
  turn_again zero answer e p l h = absurd (omega arith)
  turn_again (suc g) answer e p l h =
      (g, omega (arith, turn_reads p h), sym (draw_again g n (drop place all) long (omega (arith, value)) ∙ ap (draw g n) rest) ∙ e)

-- too few bits are left
pub turn_out : (f n w place : ℕ) (all : List ℕ) → w ≡ width n → length all - place < w → draw f n (drop place all) ≡ out
turn_out f n w place all e h = draw_short f n (drop place all) (omega (arith, length-drop place all))

some_parts : (j m k n : ℕ) → ◌≡◌ {A = Option (ℕ × ℕ)} (Some (j, m)) (Some (k, n)) → (j ≡ k) × (m ≡ n)
some_parts j m k n e =
    let p : ◌≡◌ {A = ℕ × ℕ} (j, m) (k, n) = cc in
    (ap (λ (x : ℕ × ℕ). x.0) p, ap (λ (x : ℕ × ℕ). x.1) p)

-- what is answered
module _ (all : List ℕ) (from n : ℕ) where
  abbrev first_draw : Drawn
  first_draw = draw (suc (length (drop from all))) n (drop from all)

  pub answers : length all < 2 ^ 64 → drawn_at all from n ≡ placed from (length (drop from all)) first_draw
  unfolding drawn_at
  answers h = rw (lt-ltb (length all) (2 ^ 64) h)

  pub answers_got : (k next : ℕ) → length all < 2 ^ 64 → first_draw ≡ got k (drop next all) → from ≤ next → next - from ≤ length all - from
      → Some (k, next) ≡ drawn_at all from n
  answers_got k next h e l s =
      let z : from + (length (drop from all) - length (drop next all)) ≡ next = omega (arith, length-drop from all, length-drop next all) in
      sym (answers h ∙ ap (placed from (length (drop from all))) e ∙ ap (λ j. Some (k, j)) z)

  pub answers_out : first_draw ≡ out → None ≡ drawn_at all from n
  unfolding drawn_at
  answers_out e = go (cases_lt (length all) (2 ^ 64))
    where
      go : (length all < 2 ^ 64) ⊎ (2 ^ 64 ≤ length all) → None ≡ drawn_at all from n
      go (inl h) = sym (answers h ∙ ap (placed from (length (drop from all))) e)
      go (inr h) = rw (le-ltb (length all) (2 ^ 64) h)

  pub answers_long : 2 ^ 64 ≤ length all → None ≡ drawn_at all from n
  unfolding drawn_at
  answers_long h = rw (le-ltb (length all) (2 ^ 64) h)

  -- and what an answer says
  pub from_none : length all < 2 ^ 64 → drawn_at all from n ≡ None → first_draw ≡ out
  from_none h e = go first_draw refl
    where
      go : (d : Drawn) → first_draw ≡ d → d ≡ out
      go (got k rest) x = let y = sym (answers h ∙ ap (placed from (length (drop from all))) x) ∙ e in let z : ◌≡◌ {A = ℕ} 0 1 = cc in absurd (omega arith)
      go out x = refl

  pub from_some : (k next : ℕ) → 0 < n → length all < 2 ^ 64 → drawn_at all from n ≡ Some (k, next)
      → (k < n) × (first_draw ≡ got k (drop next all)) × (next ≡ from + (length (drop from all) - length (drop next all)))
  from_some k next pos h e = go first_draw refl
    where
      go : (d : Drawn) → first_draw ≡ d → (k < n) × (d ≡ got k (drop next all)) × (next ≡ from + (length (drop from all) - length (drop next all)))
      go (got j rest) x =
          let r = draw_reads (suc (length (drop from all))) n (drop from all) j rest pos x in
          let b = length (drop from all) in
          let y = some_parts j (from + (b - length rest)) k next (sym (answers h ∙ ap (placed from b) x) ∙ e) in
          let i : j ≡ k = y.0 in
          let m : from + (b - length rest) ≡ next = y.1 in
          let s : b ≡ length r.front + length rest = ap length r.whole ∙ length-append r.front rest in
          let t : next ≡ from + length r.front = omega arith in
          let u : drop next all ≡ rest =
          ap (λ z. drop z all) t ∙ sym (drop-drop (length r.front) from all) ∙ ap (drop (length r.front)) r.whole ∙ drop_at r.front rest (length r.front) refl in
          (omega (arith, draw_below (suc b) n (drop from all) j rest x), ap₂ got i (sym u), omega (arith, ap length u))
      go out x = let y = sym (answers h ∙ ap (placed from (length (drop from all))) x) ∙ e in let z : ◌≡◌ {A = ℕ} 0 1 = cc in absurd (omega arith)
