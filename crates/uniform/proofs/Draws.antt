-- One draw: its two ways, what is drawn, and which bits are read. Assumes nothing.
use Rattle.std.proofs.Common.{◌≡◌, ℕ, zero, suc, ◌+◌, ◌<◌, ◌≤◌, Bool, true, false, cond, ltb, ◌⊎◌, List, ◌++◌, length, take, drop, sym, refl, ap, ◌∙◌, subst, ap₂, inl, inr, append_assoc, arith, length-append}
use Rattle.std.proofs.lemmas.List.{length-take-le, take-append-drop, drop_at}
use Rattle.std.proofs.lemmas.Bool.{ltb-true, lt-ltb, le-ltb, cases_lt}
use Rattle.uniform.proofs.Numbers.{number_more}
use Rattle.uniform.specs.Draws.{width, number, got, out, draw}

pub draw_short : (f n : ℕ) (bs : List ℕ) → length bs < width n → draw f n bs ≡ out
unfolding draw
draw_short zero n bs h = refl
draw_short (suc f) n bs h = rw (lt-ltb (length bs) (width n) h)

pub draw_long : (f n : ℕ) (bs : List ℕ) → width n ≤ length bs
    → draw (suc f) n bs ≡ cond (ltb (number (width n) 0 bs) n) (got (number (width n) 0 bs) (drop (width n) bs)) (draw f n (drop (width n) bs))
unfolding draw
draw_long f n bs h = rw (le-ltb (length bs) (width n) h)

pub draw_got : (f n : ℕ) (bs : List ℕ) → width n ≤ length bs → number (width n) 0 bs < n
    → draw (suc f) n bs ≡ got (number (width n) 0 bs) (drop (width n) bs)
draw_got f n bs h l = draw_long f n bs h ∙ rw (lt-ltb (number (width n) 0 bs) n l)

pub draw_again : (f n : ℕ) (bs : List ℕ) → width n ≤ length bs → n ≤ number (width n) 0 bs → draw (suc f) n bs ≡ draw f n (drop (width n) bs)
draw_again f n bs h l = draw_long f n bs h ∙ rw (le-ltb (number (width n) 0 bs) n l)

-- below 0 there is no number
pub draw_none : (f : ℕ) (bs : List ℕ) → draw f 0 bs ≡ out
unfolding draw
draw_none zero bs = refl
draw_none (suc f) bs = go (cases_lt (length bs) (width 0)) (draw_none f (drop (width 0) bs))
  where
    go : (length bs < width 0) ⊎ (width 0 ≤ length bs) → draw f 0 (drop (width 0) bs) ≡ out → draw (suc f) 0 bs ≡ out
    go (inl h) ih = draw_short (suc f) 0 bs h
    go (inr h) ih = draw_again f 0 bs h (omega arith) ∙ ih

-- what is drawn is below n
pub draw_below : (f n : ℕ) (bs : List ℕ) (k : ℕ) (rest : List ℕ) → draw f n bs ≡ got k rest → k < n
unfolding draw
draw_below zero n bs k rest e = let z : ◌≡◌ {A = ℕ} 0 1 = cc in absurd (omega arith)
draw_below (suc f) n bs k rest e =
    go (ltb (length bs) (width n)) (ltb (number (width n) 0 bs) n) refl e (draw_below f n (drop (width n) bs) k rest)
  where
    go : (p q : Bool) → ltb (number (width n) 0 bs) n ≡ q
        → cond p out (cond q (got (number (width n) 0 bs) (drop (width n) bs)) (draw f n (drop (width n) bs))) ≡ got k rest
        → (draw f n (drop (width n) bs) ≡ got k rest → k < n) → k < n
    go true q t e ih = let z : ◌≡◌ {A = ℕ} 0 1 = cc in absurd (omega arith)
    go false true t e ih = let z : number (width n) 0 bs ≡ k = cc in omega (arith, ltb-true (number (width n) 0 bs) n t)
    go false false t e ih = ih e

-- what is drawn from a row is read from its first bits alone: whatever stands behind them is left
pub record Read (n : ℕ) (bs : List ℕ) (k : ℕ) (rest : List ℕ) : Type 0 where
  pub front : List ℕ
  pub whole : bs ≡ front ++ rest
  pub again : (g : ℕ) (cs : List ℕ) → length front < g → draw g n (front ++ cs) ≡ got k cs

-- the first width n bits and what stands behind them
module _ (n : ℕ) (bs : List ℕ) (pos : 0 < n) (long : width n ≤ length bs) where
  taken : length (take (width n) bs) ≡ width n
  taken = length-take-le (width n) bs long

  same : (cs : List ℕ) → number (width n) 0 (take (width n) bs ++ cs) ≡ number (width n) 0 bs
  same cs =
      number_more (width n) 0 (take (width n) bs) cs (omega (arith, taken))
      ∙ sym (ap (number (width n) 0) (sym (take-append-drop (width n) bs)) ∙ number_more (width n) 0 (take (width n) bs) (drop (width n) bs) (omega (arith, taken)))

  room : (cs : List ℕ) → width n ≤ length (take (width n) bs ++ cs)
  room cs = simp length-append (omega (arith, taken))

  -- below n, they are what is drawn
  read_first : number (width n) 0 bs < n → Read n bs (number (width n) 0 bs) (drop (width n) bs)
  read_first h = record { front = take (width n) bs; whole = sym (take-append-drop (width n) bs); again = λ g cs l. go g cs l }
    where
      go : (g : ℕ) (cs : List ℕ) → length (take (width n) bs) < g → draw g n (take (width n) bs ++ cs) ≡ got (number (width n) 0 bs) cs
      go zero cs l = absurd (omega arith)
      go (suc g) cs l =
          draw_got g n (take (width n) bs ++ cs) (room cs) (omega (arith, same cs))
          ∙ ap₂ got (same cs) (drop_at (take (width n) bs) cs (width n) taken)

  -- a number that is thrown away has bits
  pub wide : n ≤ number (width n) 0 bs → 0 < width n
  wide h = go (width n) h
    where
      go : (w : ℕ) → n ≤ number w 0 bs → 0 < w
      go zero l = absurd (unfold number in omega arith)
      go (suc w) l = omega arith

  -- else what is drawn is read behind them
  read_later : (k : ℕ) (rest : List ℕ) → n ≤ number (width n) 0 bs → Read n (drop (width n) bs) k rest → Read n bs k rest
  read_later k rest h r =
      record {
        front = take (width n) bs ++ r.front;
        whole = sym (take-append-drop (width n) bs) ∙ ap (λ z. take (width n) bs ++ z) r.whole ∙ sym (append_assoc (take (width n) bs) r.front rest);
        again = λ g cs l. go g cs (rw length-append at l);
      }
    where
      go : (g : ℕ) (cs : List ℕ) → length (take (width n) bs) + length r.front < g → draw g n ((take (width n) bs ++ r.front) ++ cs) ≡ got k cs
      go zero cs l = absurd (omega arith)
      go (suc g) cs l =
          ap (draw (suc g) n) (append_assoc (take (width n) bs) r.front cs)
          ∙ draw_again g n (take (width n) bs ++ (r.front ++ cs)) (room (r.front ++ cs)) (omega (arith, same (r.front ++ cs)))
          ∙ ap (draw g n) (drop_at (take (width n) bs) (r.front ++ cs) (width n) taken)
          ∙ r.again g cs (omega (arith, taken, wide h))

pub draw_reads : (f n : ℕ) (bs : List ℕ) (k : ℕ) (rest : List ℕ) → 0 < n → draw f n bs ≡ got k rest → Read n bs k rest
unfolding draw
draw_reads zero n bs k rest pos e = let z : ◌≡◌ {A = ℕ} 0 1 = cc in absurd (omega arith)
draw_reads (suc f) n bs k rest pos e = by (cases_lt (length bs) (width n)) (cases_lt (number (width n) 0 bs) n) (draw_reads f n (drop (width n) bs) k rest pos)
  where
    by : (length bs < width n) ⊎ (width n ≤ length bs) → (number (width n) 0 bs < n) ⊎ (n ≤ number (width n) 0 bs)
        → (draw f n (drop (width n) bs) ≡ got k rest → Read n (drop (width n) bs) k rest) → Read n bs k rest
    by (inl h) l ih = let x = sym (draw_short (suc f) n bs h) ∙ e in let z : ◌≡◌ {A = ℕ} 0 1 = cc in absurd (omega arith)
    by (inr h) (inl l) ih =
        let x = sym (draw_got f n bs h l) ∙ e in
        let p : number (width n) 0 bs ≡ k = cc in
        let q : drop (width n) bs ≡ rest = cc in
        subst (λ z. Read n bs z rest) p (subst (λ z. Read n bs (number (width n) 0 bs) z) q (read_first n bs pos h l))
    by (inr h) (inr l) ih = read_later n bs pos h k rest l (ih (sym (draw_again f n bs h l) ∙ e))
