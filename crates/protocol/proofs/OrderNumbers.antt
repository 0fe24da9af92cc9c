-- The numbers of a written order, as they are read again. Assumes nothing.
use Rattle.std.proofs.Common.{◌≡◌, ℕ, zero, suc, ◌+◌, ◌*◌, ◌≤◌, List, [], ◌∷◌, ◌++◌, map, length, get_or, drop, Some, sym, refl, ap, ◌∙◌, add-one, arith}
use Rattle.std.specs.List.{flat_map}
use Rattle.std.proofs.lemmas.List.FromFn.{fill_by_all}
use Rattle.std.proofs.lemmas.List.{drop_more}
use Rattle.order.specs.Drawings.{Drawing, drawn, run_out}
use Rattle.sum.specs.Sums.{sum_of}
use Rattle.protocol.specs.Layout.{word_at, numbers_at}
use Rattle.protocol.specs.Protocol.{Party, word, openings, drawing_from, ordered}
use Rattle.order.proofs.Slices.{drawn_length}
use Rattle.protocol.proofs.Tails.{tail_on, tail_word}

-- an order that is drawn has a number for each name
order_from : (n L : ℕ) (ps : List Party) (ns : List ℕ) (D : Drawing) → D ≡ drawing_from n L ps → ordered D ≡ Some ns → length ns ≡ n
order_from n L ps ns (drawn ms used) e h = ap length (let z : ns ≡ ms = cc in z) ∙ drawn_length n (sum_of L (map (drop 32) (openings ps))) 0 ms used (sym e)
order_from n L ps ns run_out e h = cc

pub order_long : (n L : ℕ) (ps : List Party) (ns : List ℕ) → ordered (drawing_from n L ps) ≡ Some ns → length ns ≡ n
order_long n L ps ns e = order_from n L ps ns (drawing_from n L ps) refl e

pub words_length : (ns : List ℕ) → length (flat_map word ns) ≡ 2 * length ns
words_length [] = refl
words_length (x ∷ xs) = let h : length (flat_map word xs) ≡ 2 * length xs = words_length xs in omega arith

module _ (B : List ℕ) (at : ℕ) (ns : List ℕ) (start : drop at B ≡ flat_map word ns) where
  tail : (k : ℕ) → k ≤ length ns → drop (at + 2 * k) B ≡ flat_map word (drop k ns)
  tail zero h = let e : at + 2 * 0 ≡ at = omega arith in rw e start
  tail (suc k) h =
      let t : drop (at + 2 * k) B ≡ word (get_or ns k 0) ++ flat_map word (drop (k + 1) ns) = tail k (omega arith) ∙ ap (flat_map word) (drop_more ns k 0 (omega arith)) in
      let e : at + 2 * suc k ≡ at + 2 * k + 2 = omega arith in
      rw (e, ← add-one k) (tail_on B (at + 2 * k) (word (get_or ns k 0)) (flat_map word (drop (k + 1) ns)) 2 t refl)

  pub numbers_are : numbers_at B at (length ns) ≡ ns
  numbers_are =
      sym
      (fill_by_all (λ (k : ℕ). word_at B (at + 2 * k)) ns (length ns) 0 refl
      (λ k h.
      sym (tail_word B (at + 2 * k) (get_or ns k 0) (flat_map word (drop (k + 1) ns)) (tail k (omega arith) ∙ ap (flat_map word) (drop_more ns k 0 h)))))
