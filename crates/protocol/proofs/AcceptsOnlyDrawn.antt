-- Whatever is accepted is the protocol of a draw. Assumes nothing.
use Rattle.std.proofs.Common.{◌≡◌, ℕ, suc, ◌+◌, ◌*◌, ◌<◌, ◌≤◌, Bool, true, false, cond, eqb, List, [], ◌∷◌, ◌++◌, map, length, get_or, take, drop, Some, None, Option, Ordering, Less, Equal, Greater, sym, refl, ap, ◌∙◌, append_assoc, add-one, arith}
use Rattle.std.specs.List.{range_with_len, flat_map}
use Rattle.std.specs.Option.{option_map}
use Rattle.std.specs.Ordering.{is_lt}
use Rattle.std.specs.Str.{bytes_eq}
use Rattle.std.proofs.lemmas.List.FromFn.{length-map-range_with_len, get_or-map-range_with_len}
use Rattle.std.proofs.lemmas.Slice.Eq.{bytes_eq-Decides}
use Rattle.std.proofs.lemmas.List.{take_all, take_more}
use Rattle.std.proofs.lemmas.Bool.Decides.{nat_tests}
use Rattle.std.proofs.lemmas.Bool.{not-false}
use Rattle.refusals.specs.declared.Refusal.{Refusal}
use Rattle.refusals.specs.declared.Refusal.TheVariants.{WrongOrder}
use Rattle.sha256.specs.Sha256.{sha256}
use Rattle.entries.specs.Rows.{packed_rows}
use Rattle.seals.specs.Seal.{seal_of}
use Rattle.listing.specs.Listing.{Sorted}
use Rattle.protocol.specs.Check.{Verdict, accepted, hash_of, is_wrong, opened_count, drawing_of, order_fault, early_fault, judged, judged_order, verdict}
use Rattle.protocol.specs.Draws.{Bytes, Name, PartyOf, no_party, OfDraw, acceptance, AcceptsOnlyDrawn}
use Rattle.protocol.specs.Layout.{name_count, name_at, name_of, length_at, bits_length, party_count, opening_size, party_at, party_of, parties_of, order_at, numbers_at, size}
use Rattle.protocol.specs.Protocol.{Protocol, word, written_order, written, ordered}
use Rattle.protocol.proofs.Fronts.{part_long, bytes_part}
use Rattle.protocol.proofs.OrderNumbers.{order_long}
use Rattle.protocol.proofs.Passes.{map_none, Ranged, Sealed, shape_passed, range_passed, seal_passed, early_passed}
use Rattle.protocol.proofs.Places.{order_last}
use Rattle.protocol.proofs.Rewritten.{name_long, names_stand, party_within, order_front, numbers_front}

less_from : (r : Ordering) → is_lt r ≡ true → r ≡ Less
less_from Less e = refl
less_from Equal e = cc
less_from Greater e = cc

positive : (n : ℕ) → (n ≡ 0 → ⊥) → 0 < n
positive n h = grind arith

-- a verdict is an acceptance only where no pass found a fault
judged_none : (f : Option Refusal) (v : Verdict) (n p k : ℕ) (r : Option (List ℕ)) → judged f v ≡ accepted n p k r → (f ≡ None) × (v ≡ accepted n p k r)
judged_none None v n p k r e = (refl, e)
judged_none (Some why) v n p k r e = cc

-- a party that is read, by the byte that tells whether it opened
module _ (hash : List ℕ) (L k : ℕ) (seal x : List ℕ) (long : length seal ≡ 32) (bytes : Bytes seal) (x_bytes : Bytes x) where
  party_by : (t : Bool) → (t ≡ true → length x ≡ 32 + L) → is_wrong hash k seal (cond t (Some x) None) ≡ false
      → PartyOf hash L k (record { seal = seal; opening = cond t (Some x) None })
  party_by false l w = record { long = long; bytes = bytes; opened = tt }
  party_by true l w =
      record {
        long = long;
        bytes = bytes;
        opened = record { long = l refl; bytes = x_bytes; gives = (bytes_eq-Decides (seal_of hash k x) seal).0 (not-false (bytes_eq (seal_of hash k x) seal) w) };
      }

module _ (B : List ℕ) (byte : Bytes B) (whole : size B ≡ length B) (r : Ranged B) (s : Sealed B) (f : order_fault B (ordered (drawing_of B)) ≡ None) where
  abbrev names : List (List ℕ)
  names = map (name_of B) (range_with_len 0 (name_count B))

  -- the draw that the bytes tell
  abbrev pub told_draw : Protocol
  told_draw = record { names = names; bits_length = bits_length B; parties = parties_of B; order = ordered (drawing_of B) }

  pub count : length names ≡ name_count B
  count = length-map-range_with_len (name_of B) 0 (name_count B)

  pub party_number : length (parties_of B) ≡ party_count B
  party_number = length-map-range_with_len (party_of B) 0 (party_count B)

  name_same : (k : ℕ) → k < name_count B → get_or names k [] ≡ name_of B k
  name_same k h = get_or-map-range_with_len (name_of B) 0 (name_count B) k k [] h (omega arith)

  party_same : (k : ℕ) → k < party_count B → get_or (parties_of B) k no_party ≡ party_of B k
  party_same k h = get_or-map-range_with_len (party_of B) 0 (party_count B) k k no_party h (omega arith)

  hash_same : sha256 (packed_rows names) ≡ hash_of B
  hash_same = ap sha256 (names_stand B byte whole)

  each_name : (k : ℕ) → k < length names → Name (get_or names k [])
  each_name k l =
      let h : k < name_count B = omega (arith, count) in
      let fit = r.each_name k h in
      let least = fit.least in
      let most = fit.most in
      let long = name_long B byte whole k h in
      let e = ap length (name_same k h) in
      record {
        some = omega arith;
        short = omega arith;
        bytes = λ i. let g = ap (λ (z : List ℕ). get_or z i 0) (name_same k h) in omega (arith, bytes_part B byte (name_at B k + 1) (get_or B (name_at B k) 0) i);
      }

  sorted : Sorted names
  sorted i l =
      let h : i + 1 < name_count B = omega (arith, count) in
      rw (name_same i (omega arith), name_same (i + 1) h, add-one i) (less_from _ (r.each_name (suc i) (omega arith)).above)

  party_long : (k : ℕ) → k < party_count B → party_at B k + 33 + opening_size (get_or B (party_at B k + 32) 0) (bits_length B) ≤ length B
  party_long k h = let w = party_within B byte whole k h in let o = order_last B in omega arith

  opening_long : (k : ℕ) → k < party_count B → eqb (get_or B (party_at B k + 32) 0) 1 ≡ true → length (take (32 + bits_length B) (drop (party_at B k + 33) B)) ≡ 32 + bits_length B
  opening_long k h t =
      let w = party_long k h in
      part_long B (party_at B k + 33) (32 + bits_length B) (grind (arith, nat_tests))

  each_party : (k : ℕ) → k < length (parties_of B) → PartyOf (sha256 (packed_rows names)) (bits_length B) k (get_or (parties_of B) k no_party)
  each_party k l =
      let h : k < party_count B = omega (arith, party_number) in
      let at : ℕ = party_at B k in
      let w = party_long k h in
      let p : PartyOf (hash_of B) (bits_length B) k (party_of B k) =
      party_by (hash_of B) (bits_length B) k (take 32 (drop at B)) (take (32 + bits_length B) (drop (at + 33) B)) (part_long B at 32 (omega arith)) (bytes_part B byte at 32)
      (bytes_part B byte (at + 33) (32 + bits_length B)) (eqb (get_or B (at + 32) 0) 1) (opening_long k h) (s.each_opening k h) in
      rw (hash_same, party_same k h) p

  -- one byte tells the number of parties
  few : length (parties_of B) ≤ 255
  unfolding party_count
  few = omega (arith, party_number, byte (length_at B + 2))

  pub of_draw : OfDraw told_draw
  of_draw =
      let a = r.some_names in
      let b = r.few_names in
      record {
        some_names = omega (arith, count);
        few_names = omega (arith, count);
        each_name = each_name;
        sorted = sorted;
        enough_bits = r.enough_bits;
        few_bits = r.few_bits;
        some_parties = positive (length (parties_of B)) (λ z. r.some_parties (sym party_number ∙ z));
        few_parties = few;
        each_party = each_party;
        some_opened = positive (opened_count B) s.some_opened;
        drawn = rw count refl;
      }

  -- the order as it stands
  order_by : (o : Option (List ℕ)) → ordered (drawing_of B) ≡ o → order_fault B o ≡ None → B ≡ take (order_at B) B ++ written_order o
  unfolding size
  order_by None e g =
      let w : get_or B (order_at B) 0 ≡ 0 = grind (arith, nat_tests) in
      let z : size B ≡ order_at B + 1 = grind (arith, nat_tests) in
      sym (take_all (order_at B + 1) B (omega arith)) ∙ rw (sym w) (take_more B (order_at B) 0 (omega arith))
  order_by (Some ns) e g =
      let at : ℕ = order_at B + 1 in
      let w : get_or B (order_at B) 0 ≡ 1 = grind (arith, nat_tests) in
      let m : length ns ≡ name_count B = order_long (name_count B) (bits_length B) (parties_of B) ns e in
      let t : bytes_eq (numbers_at B at (length ns)) ns ≡ true = grind (arith, nat_tests) in
      let same : numbers_at B at (length ns) ≡ ns = (bytes_eq-Decides (numbers_at B at (length ns)) ns).0 t in
      let z : size B ≡ at + 2 * name_count B = grind (arith, nat_tests) in
      sym (take_all (at + 2 * length ns) B (omega arith))
      ∙ (numbers_front B byte whole at (length ns) (omega arith)
      ∙ rw (same, take_more B (order_at B) 0 (omega arith), w) (append_assoc (take (order_at B) B) (1 ∷ []) (flat_map word ns)))

  pub rewritten : written told_draw ≡ B
  rewritten =
      rw (count, party_number)
      (sym (order_by (ordered (drawing_of B)) refl f ∙ (ap (λ (z : List ℕ). z ++ written_order (ordered (drawing_of B))) (order_front B byte whole r.each_mark) ∙ simp append_assoc)))

only_drawn : (B : List ℕ) (n p k : ℕ) (o : Option (List ℕ)) → Bytes B → verdict B ≡ accepted n p k o
    → (d : Protocol) × OfDraw d × (written d ≡ B) × (accepted n p k o ≡ acceptance d)
unfolding verdict
only_drawn B n p k o byte e =
    let a = judged_none (early_fault B) (judged_order B (ordered (drawing_of B))) n p k o e in
    let b = judged_none (option_map (λ at. WrongOrder at) (order_fault B (ordered (drawing_of B)))) (accepted (name_count B) (party_count B) (opened_count B) (ordered (drawing_of B))) n p k o a.1 in
    let passed = early_passed B a.0 in
    let whole = shape_passed B passed.0 in
    let r = range_passed B passed.1 in
    let s = seal_passed B passed.2 in
    let f = map_none (λ at. WrongOrder at) (order_fault B (ordered (drawing_of B))) b.0 in (
      told_draw B byte whole r s f,
      of_draw B byte whole r s f,
      rewritten B byte whole r s f,
      rw (count B byte whole r s f, party_number B byte whole r s f) (sym b.1),
    )

pub accepts_only_drawn : (bytes : List ℕ) (v : Verdict) → Bytes bytes → v ≡ verdict bytes → AcceptsOnlyDrawn bytes v
accepts_only_drawn bytes v byte e n p k o h =
    let q = only_drawn bytes n p k o byte (sym e ∙ h) in
    (q.0, q.1, q.2, h ∙ q.3)
