-- As many files print one order as any other. Assumes nothing.
use Rattle.std.proofs.Common.{◌≡◌, ℕ, suc, ◌*◌, ◌^◌, ◌<◌, ◌≤◌, Bool, true, false, eqb, List, [], ◌∷◌, length, get_or, set, Some, None, Option, sym, refl, ap, ◌∙◌, subst, arith}
use Rattle.std.specs.List.{AllByRecursion}
use Rattle.std.specs.Str.{bytes_eq}
use Rattle.std.proofs.lemmas.Slice.Eq.{bytes_eq-Decides}
use Rattle.std.proofs.lemmas.List.{length-map, length-set}
use Rattle.std.proofs.lemmas.Bool.{eqb-true, eq-eqb, and_parts, and_from}
use Rattle.uniform.specs.Bits.{bits}
use Rattle.order.specs.Orders.{Order, some, none}
use Rattle.order.specs.Drawings.{told, drawn_order, bits_read}
use Rattle.sum.specs.Sums.{sum_of}
use Rattle.protocol.specs.Protocol.{ordered}
use Rattle.texts.specs.Laws.{Fitting}
use Rattle.texts.specs.Lines.{summary_lines}
use Rattle.texts.proofs.Told.{summary_told}
use Rattle.counting.specs.Counting.{count, few, same_row, is_order, is_none}
use Rattle.counting.specs.Rows.{Below, bytes_of}
use Rattle.counting.specs.Orders.{Arrangement}
use Rattle.counting.specs.Draws.{drawn}
use Rattle.counting.proofs.Rows.{count_bits}
use Rattle.counting.proofs.Bytes.{packed_holds}
use Rattle.counting.proofs.Arrangements.{is_arrangement_holds}
use Rattle.counting.proofs.Draws.{is_drawn_holds, fair_draw_holds}
use Rattle.counting.proofs.Enough.{seldom_out_draw_holds}
use Rattle.seals.specs.Seal.{seal_of}
use Rattle.scripts.specs.Script.{Script, Right, hash_of, row_of, rows_of}
use Rattle.scripts.specs.Fair.{text_of, opening_with, with_bits, file_with, prints, FairFile, SeldomNone}
use Rattle.scripts.proofs.Printed.{prints_whole}
use Rattle.scripts.proofs.Replaced.{still_right, rows_with}

same_tests : (a b : Bool) → (a ≡ true → b ≡ true) → (b ≡ true → a ≡ true) → a ≡ b
same_tests true b f g = sym (f refl)
same_tests false true f g = g refl
same_tests false false f g = refl

row_is : (xs ys : List ℕ) → same_row xs ys ≡ true → xs ≡ ys
unfolding same_row
row_is [] [] h = refl
row_is [] (y ∷ ys) h = absurd cc
row_is (x ∷ xs) [] h = absurd cc
row_is (x ∷ xs) (y ∷ ys) h = let p = and_parts (eqb x y) (same_row xs ys) h in λ i. eqb-true x y p.0 i ∷ row_is xs ys p.1 i

row_itself : (xs : List ℕ) → same_row xs xs ≡ true
unfolding same_row
row_itself [] = refl
row_itself (x ∷ xs) = and_from (eqb x x) (same_row xs xs) (eq-eqb x x refl) (row_itself xs)

-- an order as it is printed
abbrev shown : Order → Option (List ℕ)
shown (some ns) = Some ns
shown none = None

shown_is : (o : Order) (used : ℕ) → ordered (told o used) ≡ shown o
shown_is (some ns) used = refl
shown_is none used = refl

fitting : (n : ℕ) (xs : List ℕ) → n ≤ 2000 → Below n xs → AllByRecursion (λ x. x < 2 ^ 64) xs
fitting n [] l h = tt
fitting n (x ∷ xs) l h = (let z : x < n = h 0 (omega arith) in omega arith, fitting n xs l (λ i k. h (suc i) (omega arith)))

arranged_fits : (n : ℕ) (p : List ℕ) → n ≤ 2000 → Arrangement n p → Fitting (Some p)
unfolding Arrangement
arranged_fits n p l a = fitting n p l a.1

module _ (s : Script) (r : Right s) where
  n : ℕ
  n = length s.names

  -- what is printed is the text of the order that is drawn
  shows : Order → List ℕ
  shows o = text_of s (shown o)

  fits : (o : Order) → drawn n s.len (rows_of s) ≡ o → Fitting (shown o)
  unfolding drawn n
  fits (some ns) e = arranged_fits (length s.names) ns r.few_names (is_arrangement_holds (length s.names) (bits (sum_of s.len (rows_of s))) ns e)
  fits none e = tt

  told_text : (a b : Option (List ℕ)) → Fitting a → Fitting b → bytes_eq (text_of s a) (text_of s b) ≡ true → a ≡ b
  told_text a b f g h = summary_told _ _ _ a b f g ((bytes_eq-Decides (text_of s a) (text_of s b)).0 h)

  -- the text tells whether it is this order
  order_test : (p : List ℕ) → Arrangement n p → (o : Order) → drawn n s.len (rows_of s) ≡ o → bytes_eq (text_of s (shown o)) (text_of s (Some p)) ≡ is_order p o
  unfolding is_order n
  order_test p a (some ns) e =
      same_tests _ _
      (λ h. let q : ns ≡ p = (let z = told_text (Some ns) (Some p) (fits (some ns) e) (arranged_fits (length s.names) p r.few_names a) h in cc) in subst (λ (xs : List ℕ). same_row p xs ≡ true) (sym q) (row_itself p))
      (λ h. (bytes_eq-Decides (text_of s (Some ns)) (text_of s (Some p))).1 (ap (λ (xs : List ℕ). text_of s (Some xs)) (sym (row_is p ns h))))
  order_test p a none e =
      same_tests _ _
      (λ h. let q = told_text None (Some p) tt (arranged_fits (length s.names) p r.few_names a) h in absurd cc)
      (λ h. absurd cc)

  none_test : (o : Order) → drawn n s.len (rows_of s) ≡ o → bytes_eq (text_of s (shown o)) (text_of s None) ≡ is_none o
  unfolding is_none n
  none_test (some ns) e =
      same_tests _ _
      (λ h. let q = told_text (Some ns) None (fits (some ns) e) tt h in absurd cc)
      (λ h. absurd cc)
  none_test none e = (bytes_eq-Decides (text_of s None) (text_of s None)).1 refl

  drawn_text : ordered (drawn_order n (sum_of s.len (rows_of s)) 0) ≡ shown (drawn n s.len (rows_of s))
  drawn_text =
      ap ordered (is_drawn_holds n s.len (rows_of s) (let h = r.few_bits in omega (arith, h)))
      ∙ shown_is (drawn n s.len (rows_of s)) (bits_read n (bits (sum_of s.len (rows_of s))))

module _ (s : Script) (r : Right s) (j : ℕ) (l : j < length s.comes) where
  -- the script with another row of that party's bits
  abbrev other : List ℕ → Script
  other mine = with_bits s (get_or s.comes j 0) (bytes_of s.len mine)

  -- the counts that are printed stay
  same_text : (mine : List ℕ) (a : Option (List ℕ)) → text_of (other mine) a ≡ text_of s a
  same_text mine a =
      ap (λ (k : ℕ). summary_lines (length s.names) k (length s.comes) a)
      (length-set s.seals (get_or s.comes j 0) (seal_of (hash_of s) (get_or s.comes j 0) (opening_with s (get_or s.comes j 0) (bytes_of s.len mine))))

  module _ (mine : List ℕ) (long : length (bytes_of s.len mine) ≡ s.len) where
    right : Right (other mine)
    right = still_right s r j (bytes_of s.len mine) l long

    drawn_with : Order
    drawn_with = drawn (length s.names) s.len (rows_of (other mine))

    drawn_set : drawn_with ≡ drawn (length s.names) s.len (set (rows_of s) j (bytes_of s.len mine))
    unfolding drawn_with
    drawn_set = ap (drawn (length s.names) s.len) (rows_with s r j (bytes_of s.len mine) l long)

    -- what the file prints, compared with the text of an order or of none
    compared : (a : Option (List ℕ)) → prints s a (file_with s j mine) ≡ bytes_eq (text_of (other mine) (shown drawn_with)) (text_of (other mine) a)
    unfolding drawn_with n
    compared a =
        ap (λ (t : List ℕ). bytes_eq t (text_of s a)) (prints_whole (other mine) right ∙ ap (text_of (other mine)) (drawn_text (other mine) right))
        ∙ ap (bytes_eq (text_of (other mine) (shown (drawn (length s.names) s.len (rows_of (other mine)))))) (sym (same_text mine a))

    prints_order : (p : List ℕ) → Arrangement (length s.names) p
        → prints s (Some p) (file_with s j mine) ≡ is_order p (drawn (length s.names) s.len (set (rows_of s) j (bytes_of s.len mine)))
    unfolding drawn_with n
    prints_order p a = compared (Some p) ∙ (order_test (other mine) right p a drawn_with refl ∙ ap (is_order p) drawn_set)

    prints_none : prints s None (file_with s j mine) ≡ is_none (drawn (length s.names) s.len (set (rows_of s) j (bytes_of s.len mine)))
    unfolding drawn_with n
    prints_none = compared None ∙ (none_test (other mine) right drawn_with refl ∙ ap is_none drawn_set)

  rows_long : j < length (rows_of s)
  rows_long = let m = length-map s.comes (row_of s.openings) in omega (arith, m, l)

  count_order : (p : List ℕ) → Arrangement (length s.names) p
      → count (8 * s.len) (λ mine. prints s (Some p) (file_with s j mine))
      ≡ count (8 * s.len) (λ mine. is_order p (drawn (length s.names) s.len (set (rows_of s) j (bytes_of s.len mine))))
  count_order p a = count_bits (8 * s.len) _ _ (λ mine k b. prints_order mine (packed_holds s.len mine k b).1 p a)

  count_none : count (8 * s.len) (λ mine. prints s None (file_with s j mine))
      ≡ count (8 * s.len) (λ mine. is_none (drawn (length s.names) s.len (set (rows_of s) j (bytes_of s.len mine))))
  count_none = count_bits (8 * s.len) _ _ (λ mine k b. prints_none mine (packed_holds s.len mine k b).1)

pub fair_file : FairFile
fair_file s j p q r l a b =
    count_order s r j l p a ∙ (fair_draw_holds (length s.names) s.len (rows_of s) j p q (rows_long s r j l) a b ∙ sym (count_order s r j l q b))

pub seldom_none : SeldomNone
seldom_none s j w t r l a b =
    subst (λ (k : ℕ). k * 2 ^ t ≤ few (length s.names) t * 2 ^ (8 * s.len)) (sym (count_none s r j l))
    (seldom_out_draw_holds (length s.names) s.len w t (rows_of s) j (rows_long s r j l) a b)
