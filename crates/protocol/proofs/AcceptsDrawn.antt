-- The protocol of a draw, as it is read again. Assumes nothing.
use Rattle.std.proofs.Common.{◌≡◌, ℕ, zero, suc, ◌+◌, ◌-◌, ◌<◌, ◌≤◌, true, false, not, List, [], ◌∷◌, ◌++◌, length, get_or, drop, IfSome, Some, None, Option, sym, refl, ap, ◌∙◌, add-one, arith}
use Rattle.std.specs.List.{flat_map}
use Rattle.std.specs.Option.{option_map}
use Rattle.std.specs.Ordering.{is_lt}
use Rattle.std.specs.Str.{bytes_eq}
use Rattle.std.proofs.lemmas.List.FromFn.{fill_by_all}
use Rattle.std.proofs.lemmas.Slice.Eq.{bytes_eq-Decides}
use Rattle.std.proofs.lemmas.List.{drop_all, take_at, length-append}
use Rattle.std.proofs.lemmas.Bool.Decides.{nat_tests}
use Rattle.refusals.specs.declared.Refusal.TheVariants.{WrongOrder}
use Rattle.sha256.specs.Sha256.{sha256}
use Rattle.entries.specs.Rows.{packed_rows, row_order}
use Rattle.seals.specs.Seal.{seal_of}
use Rattle.protocol.specs.Check.{Verdict, hash_of, is_wrong, wrong_opening, name_before, opened_count, drawing_of, order_fault, verdict}
use Rattle.protocol.specs.Draws.{Opening, no_party, OfDraw, acceptance, AcceptsDrawn}
use Rattle.protocol.specs.Layout.{name_count, name_at, name_of, length_at, bits_length, party_count, party_at, party_of, parties_of, order_at, numbers_at, size}
use Rattle.protocol.specs.Protocol.{Party, Protocol, word, written_party, written_order, written, openings, drawing_from, ordered}
use Rattle.protocol.proofs.Verdicts.{verdict_accepted}
use Rattle.protocol.proofs.NamesRead.{name_tail, name_length, name_is}
use Rattle.protocol.proofs.OrderNumbers.{order_long, words_length, numbers_are}
use Rattle.protocol.proofs.PartiesRead.{mark, Long, Shaped, party_tail, party_told, party_is}
use Rattle.protocol.proofs.Passes.{Fit, Ranged, Sealed, shape_passes, range_passes, seal_passes, early_passes}
use Rattle.protocol.proofs.Tails.{tail_at, tail_first, tail_drop, tail_long, tail_word, word_is}

-- an opening of a draw has its length, and gives its seal
long_from : (hash seal : List ℕ) (L k : ℕ) (o : Option (List ℕ)) → IfSome o (Opening hash L k seal) → Long L o
long_from hash seal L k None h = tt
long_from hash seal L k (Some x) h = h.long

right_from : (hash seal : List ℕ) (L k : ℕ) (o : Option (List ℕ)) → IfSome o (Opening hash L k seal) → is_wrong hash k seal o ≡ false
right_from hash seal L k None h = refl
right_from hash seal L k (Some x) h = ap not ((bytes_eq-Decides (seal_of hash k x) seal).1 h.gives)

mark_small : (o : Option (List ℕ)) → mark o ≤ 1
mark_small None = omega arith
mark_small (Some x) = omega arith

-- a row with a byte is above the row with none
first_above : (x : List ℕ) → 0 < length x → is_lt (row_order [] x) ≡ true
first_above [] h = absurd (omega arith)
first_above (y ∷ ys) h = refl

module _ (d : Protocol) (o : OfDraw d) where
  abbrev B : List ℕ
  B = written d

  abbrev n : ℕ
  n = length d.names

  abbrev last : List ℕ
  last = flat_map written_party d.parties ++ written_order d.order

  abbrev middle : List ℕ
  middle = word d.bits_length ++ (length d.parties ∷ last)

  count : name_count B ≡ n
  unfolding name_count
  count = word_is n

  start : drop 2 B ≡ packed_rows d.names ++ middle
  start = refl

  behind_names : drop (length_at B) B ≡ middle
  unfolding length_at
  behind_names =
      rw count (name_tail B d.names middle start n (omega arith) ∙ rw (drop_all n d.names (omega arith)) refl)

  bits : bits_length B ≡ d.bits_length
  unfolding bits_length
  bits = tail_word B (length_at B) d.bits_length (length d.parties ∷ last) behind_names

  party_number : party_count B ≡ length d.parties
  unfolding party_count
  party_number = tail_at B (length_at B) middle behind_names 2

  parties_start : drop (party_at B 0) B ≡ flat_map written_party d.parties ++ written_order d.order
  unfolding party_at
  parties_start = tail_drop B (length_at B) middle behind_names 3

  shaped : (k : ℕ) → k < length d.parties → Shaped (bits_length B) (get_or d.parties k no_party)
  shaped k h =
      let p = o.each_party k h in
      record {
        seal_long = p.long;
        long = rw bits (long_from _ _ _ k (get_or d.parties k no_party).opening p.opened);
      }

  party_same : (k : ℕ) → k < length d.parties → party_of B k ≡ get_or d.parties k no_party
  party_same k h = party_is B d.parties (written_order d.order) parties_start shaped k h

  parties_same : parties_of B ≡ d.parties
  parties_same = sym (fill_by_all (party_of B) d.parties (party_count B) no_party (sym party_number) (λ k h. sym (party_same k (omega (arith, party_number)))))

  behind_parties : drop (order_at B) B ≡ written_order d.order
  unfolding order_at
  behind_parties =
      rw party_number (party_tail B d.parties (written_order d.order) parties_start shaped (length d.parties) (omega arith) ∙ rw (drop_all (length d.parties) d.parties (omega arith)) refl)

  hash_same : hash_of B ≡ sha256 (packed_rows d.names)
  hash_same =
      let long : length B ≡ length_at B + length middle = tail_long B (length_at B) middle behind_names (omega arith) in
      let l : length (packed_rows d.names) ≡ length_at B - 2 = omega (arith, length-append (packed_rows d.names) middle) in
      ap sha256 (take_at (packed_rows d.names) middle (length_at B - 2) l)

  drawing_same : drawing_of B ≡ drawing_from n d.bits_length d.parties
  drawing_same = rw (count, bits, parties_same) refl

  size_by : (r : Option (List ℕ)) → d.order ≡ r → drop (order_at B) B ≡ written_order r → size B ≡ length B
  unfolding size
  size_by None e t =
      let l = tail_long B (order_at B) (written_order None) t (omega arith) in
      let w : get_or B (order_at B) 0 ≡ 0 = tail_first B (order_at B) _ t in
      grind (arith, nat_tests)
  size_by (Some ns) e t =
      let l = tail_long B (order_at B) (written_order (Some ns)) t (omega arith) in
      let w : get_or B (order_at B) 0 ≡ 1 = tail_first B (order_at B) _ t in
      let m : length ns ≡ n = order_long n d.bits_length d.parties ns (sym o.drawn ∙ e) in
      let long = words_length ns in
      grind (arith, nat_tests, count)

  order_right : (r : Option (List ℕ)) → drop (order_at B) B ≡ written_order r → None ≡ order_fault B r
  order_right None t =
      let w : get_or B (order_at B) 0 ≡ 0 = tail_first B (order_at B) _ t in
      grind (arith, nat_tests)
  order_right (Some ns) t =
      let w : get_or B (order_at B) 0 ≡ 1 = tail_first B (order_at B) _ t in
      let s : bytes_eq (numbers_at B (order_at B + 1) (length ns)) ns ≡ true =
      (bytes_eq-Decides (numbers_at B (order_at B + 1) (length ns)) ns).1 (numbers_are B (order_at B + 1) ns (tail_drop B (order_at B) _ t 1)) in
      grind (arith, nat_tests)

  above : (k : ℕ) → k < n → is_lt (row_order (name_before B k) (name_of B k)) ≡ true
  above zero h =
      rw (name_is B d.names middle start 0 h) (first_above (get_or d.names 0 []) (o.each_name 0 h).some)
  above (suc k) h =
      rw (name_is B d.names middle start k (omega arith), name_is B d.names middle start (suc k) h, ← add-one k) (ap is_lt (o.sorted k (omega arith)))

  fit : (k : ℕ) → k < name_count B → Fit B k
  fit k l =
      let h : k < n = omega (arith, count) in
      let w = o.each_name k h in
      let e : get_or B (name_at B k) 0 ≡ length (get_or d.names k []) = name_length B d.names middle start k h in
      let a = w.some in
      let b = w.short in
      record { least = omega arith; most = omega arith; above = above k h }

  ranged : Ranged B
  ranged =
      let a = o.some_names in
      let b = o.few_names in
      let e = o.enough_bits in
      let f = o.few_bits in
      let g = o.some_parties in
      record {
        some_names = omega (arith, count);
        few_names = omega (arith, count);
        each_name = fit;
        enough_bits = omega (arith, bits);
        few_bits = omega (arith, bits);
        some_parties = λ z. omega (arith, party_number);
        each_mark =
            λ k h.
            let l : k < length d.parties = omega (arith, party_number) in
            omega (arith, party_told B d.parties (written_order d.order) parties_start shaped k l, mark_small (get_or d.parties k no_party).opening);
      }

  opened_same : opened_count B ≡ length (openings d.parties)
  opened_same = ap (λ (ps : List Party). length (openings ps)) parties_same

  sealed : Sealed B
  sealed =
      let a = o.some_opened in
      record {
        each_opening =
            λ k h.
            let l : k < length d.parties = omega (arith, party_number) in
            rw hash_same
            (ap (wrong_opening (sha256 (packed_rows d.names)) k) (party_same k l)
            ∙ right_from _ (get_or d.parties k no_party).seal d.bits_length k (get_or d.parties k no_party).opening (o.each_party k l).opened);
        some_opened = λ z. omega (arith, opened_same);
      }

  pub accepted_drawn : verdict B ≡ acceptance d
  accepted_drawn =
      sym
      (verdict_accepted B (early_passes B (shape_passes B (size_by d.order refl behind_parties)) (range_passes B ranged) (seal_passes B sealed)) d.order (o.drawn ∙ ap ordered (sym drawing_same))
      n (length d.parties) (length (openings d.parties)) (ap (option_map (λ at. WrongOrder at)) (order_right d.order behind_parties)) (sym count) (sym party_number) (sym opened_same))

pub accepts_drawn : (bytes : List ℕ) (v : Verdict) → v ≡ verdict bytes → AcceptsDrawn bytes v
accepts_drawn bytes v e d o w = e ∙ (ap verdict (sym w) ∙ accepted_drawn d o)
