-- Which bits an order is read from. Assumes nothing.
use Rattle.std.proofs.Common.{◌≡◌, ℕ, zero, suc, ◌^◌, ◌<◌, ◌≤◌, ◌⊎◌, List, [], ◌∷◌, ◌++◌, length, take, drop, sym, refl, ap, ◌∙◌, subst, ap₂, inl, inr, append_assoc, arith, length-append}
use Rattle.order.proofs.Slices.{drawn_order_is, drawn_order_long}
use Rattle.order.proofs.Turns.{order_parts}
use Rattle.order.specs.Drawings.{read_on, bits_read, drawn, run_out, told, drawn_from, drawn_order}
use Rattle.order.specs.Laws.{ExactlyRead}
use Rattle.order.specs.Orders.{Order, some, none, put, next, order, names, numbers_from, written, order_names}
use Rattle.std.proofs.lemmas.List.{take_at, take-append-drop, length-take}
use Rattle.std.proofs.lemmas.Bool.{cases_lt}
use Rattle.uniform.proofs.Draws.{Read, draw_reads}
use Rattle.uniform.specs.Bits.{bits}
use Rattle.uniform.specs.Draws.{got, draw}

-- an order is read from the first bits of a row alone, whatever stands behind them
pub record Front (n : ℕ) (bs ks : List ℕ) : Type 0 where
  pub front : List ℕ
  pub rest : List ℕ
  pub whole : bs ≡ front ++ rest
  pub again : (cs : List ℕ) → order n (front ++ cs) ≡ some ks
  pub reads : (cs : List ℕ) → bits_read n (front ++ cs) ≡ length front

pub order_reads : (n : ℕ) (bs ks : List ℕ) → order n bs ≡ some ks → Front n bs ks
unfolding order bits_read put next
order_reads zero bs ks e = record { front = []; rest = bs; whole = refl; again = λ cs. e; reads = λ cs. refl }
order_reads (suc n) bs ks e =
    let p = order_parts n bs ks e in
    let r = draw_reads (suc (length bs)) (suc n) bs p.first p.left (omega arith) p.drew in
    step p.first p.later p.left r (order_reads n p.left p.later p.found) p.made
  where
    step : (k : ℕ) (later left : List ℕ) (r : Read (suc n) bs k left) (q : Front n left later) → ks ≡ k ∷ later → Front (suc n) bs ks
    step k later left r q made =
        record {
          front = r.front ++ q.front;
          rest = q.rest;
          whole = r.whole ∙ ap (λ z. r.front ++ z) q.whole ∙ sym (append_assoc r.front q.front q.rest);
          again = λ cs. ap (order (suc n)) (append_assoc r.front q.front cs) ∙ ap (next (λ z. order n z)) (first cs) ∙ ap (put k) (q.again cs) ∙ ap some (sym made);
          reads = λ cs.
              ap (bits_read (suc n)) (append_assoc r.front q.front cs)
              ∙ ap (read_on (length (r.front ++ (q.front ++ cs))) (λ z. bits_read n z)) (first cs)
              ∙ omega (arith, length-append r.front (q.front ++ cs), q.reads cs, length-append r.front q.front);
        }
      where
        first : (cs : List ℕ) → draw (suc (length (r.front ++ (q.front ++ cs)))) (suc n) (r.front ++ (q.front ++ cs)) ≡ got k (q.front ++ cs)
        first cs = r.again (suc (length (r.front ++ (q.front ++ cs)))) (q.front ++ cs) (omega (arith, length-append r.front (q.front ++ cs)))

-- more bits don't change an order that was found
pub kept_holds : (n : ℕ) (bs cs ks : List ℕ) → order n bs ≡ some ks → order n (bs ++ cs) ≡ some ks
kept_holds n bs cs ks e =
    let f = order_reads n bs ks e in
    ap (order n) (ap (λ z. z ++ cs) f.whole ∙ append_assoc f.front f.rest cs) ∙ f.again (f.rest ++ cs)

module _ (n : ℕ) (bs ks : List ℕ) (e : order n bs ≡ some ks) where
  abbrev found : Front n bs ks
  found = order_reads n bs ks e

  all_read : bits_read n bs ≡ length found.front
  all_read = ap (bits_read n) found.whole ∙ found.reads found.rest

  within : bits_read n bs ≤ length bs
  within = omega (arith, all_read, ap length found.whole, length-append found.front found.rest)

  taken : take (bits_read n bs) bs ≡ found.front
  taken = ap (take (bits_read n bs)) found.whole ∙ take_at found.front found.rest (bits_read n bs) (sym all_read)

  enough : (more : List ℕ) → drawn_from n (take (bits_read n bs) bs ++ more) ≡ drawn (names (numbers_from 0 n) ks) (bits_read n bs)
  unfolding drawn_from order_names written
  enough more =
      ap (drawn_from n) (ap (λ z. z ++ more) taken)
      ∙ ap₂ (λ x y. told (written (numbers_from 0 n) x) y) (found.again more) (found.reads more ∙ sym all_read)

  no_fewer : (fewer : ℕ) → fewer < bits_read n bs → drawn_from n (take fewer bs) ≡ run_out
  unfolding drawn_from order_names written
  no_fewer fewer h = go (order n (take fewer bs)) refl
    where
      go : (o : Order) → order n (take fewer bs) ≡ o → told (written (numbers_from 0 n) (order n (take fewer bs))) (bits_read n (take fewer bs)) ≡ run_out
      go (some ls) d =
          let f = order_reads n (take fewer bs) ls d in
          let w : bs ≡ f.front ++ (f.rest ++ drop fewer bs) =
          sym (take-append-drop fewer bs) ∙ ap (λ z. z ++ drop fewer bs) f.whole ∙ append_assoc f.front f.rest (drop fewer bs) in
          absurd
          (omega (arith, ap (bits_read n) w, f.reads (f.rest ++ drop fewer bs), ap length f.whole, length-append f.front f.rest, length-take fewer bs))
      go none d = rw d refl

drawing_exact : (n : ℕ) (bs : List ℕ) → ExactlyRead n bs (drawn_from n bs)
drawing_exact n bs = go (order n bs) refl
  where
    go : (o : Order) → order n bs ≡ o → ExactlyRead n bs (drawn_from n bs)
    go (some ks) e =
        let d : drawn_from n bs ≡ drawn (names (numbers_from 0 n) ks) (bits_read n bs) = unfold drawn_from order_names written in ap (λ z. told (written (numbers_from 0 n) z) (bits_read n bs)) e in
        subst (ExactlyRead n bs) (sym d) (within n bs ks e, enough n bs ks e, no_fewer n bs ks e)
    go none e =
        let d : drawn_from n bs ≡ run_out = unfold drawn_from order_names written in ap (λ z. told (written (numbers_from 0 n) z) (bits_read n bs)) e in
        subst (ExactlyRead n bs) (sym d) tt

pub exactly_read_holds : (n : ℕ) (bytes : List ℕ) (from : ℕ) → ExactlyRead n (drop from (bits bytes)) (drawn_order n bytes from)
exactly_read_holds n bytes from = go (cases_lt (length bytes) (2 ^ 61))
  where
    go : (length bytes < 2 ^ 61) ⊎ (2 ^ 61 ≤ length bytes) → ExactlyRead n (drop from (bits bytes)) (drawn_order n bytes from)
    go (inl h) = subst (ExactlyRead n (drop from (bits bytes))) (sym (drawn_order_is n bytes from h)) (drawing_exact n (drop from (bits bytes)))
    go (inr h) = subst (ExactlyRead n (drop from (bits bytes))) (sym (drawn_order_long n bytes from h)) tt
