-- The protocol of every run that ends is the protocol of a draw. Assumes nothing.
use Rattle.std.proofs.Common.{◌≡◌, ℕ, zero, suc, ◌+◌, ◌*◌, ◌<◌, ◌≤◌, Bool, true, false, cond, List, [], ◌∷◌, ◌++◌, map, length, get_or, take, drop, Some, None, sym, refl, ap, ◌∙◌, subst, add-one, arith, MatchOption}
use Rattle.std.specs.List.{range_with_len}
use Rattle.std.specs.Option.{option_to_list}
use Rattle.std.proofs.lemmas.List.FromFn.{length-map-range_with_len, get_or-map-range_with_len, map-range_with_len_more}
use Rattle.std.proofs.lemmas.List.{length-append, length-take-le, length-drop, length-map, get_or-map, map-append, flat_map_more}
use Rattle.sha256.specs.Sha256.{sha256}
use Rattle.entries.specs.Rows.{listed, packed_rows, name_in, slot_size}
use Rattle.listing.proofs.Memory.{length_names, name_lengths}
use Rattle.seals.specs.Records.{record_size, seal_in, has_opened, opening_in, opened_count}
use Rattle.records.specs.Records.{opened_rows}
use Rattle.records.proofs.Places.{later_place}
use Rattle.sum.specs.Sums.{sum_of}
use Rattle.order.specs.Drawings.{drawn_order}
use Rattle.protocol.specs.Protocol.{Party, openings, ordered}
use Rattle.protocol.specs.Finished.{party_left}
use Rattle.protocol.specs.Draws.{Bytes, Name, Opening, PartyOf, OfDraw, no_party, acceptance}
use Rattle.protocol.specs.Check.{accepted}
use Rattle.ceremony.specs.Model.{Ended}
use Rattle.ceremony.specs.Reports.{order_of, protocol_left}
use Rattle.ceremony.specs.Draws.{ended}
use Rattle.laws.specs.Sound.{AtEnd, list_of}
use Rattle.protocol.specs.Texts.{verdict_text}
use Rattle.laws.specs.Laws.{RunProtocols}
use Rattle.laws.proofs.Runs.{end_sound}
use Rattle.laws.proofs.Bytes.{Typed, bytes_take, bytes_drop, runs_typed}

-- the parties that the records tell of
abbrev pub parties_left : List ℕ → ℕ → ℕ → List Party
parties_left seals L n = map (party_left seals L) (range_with_len 0 n)

-- one party more
openings_more : (ps : List Party) (p : Party) → openings (ps ++ p ∷ []) ≡ openings ps ++ option_to_list p.opening
openings_more ps p = sym (flat_map_more (λ (q : Party). option_to_list q.opening) [] ps p)

-- the rows of the parties that opened are those that were added up
pub rows_are : (seals : List ℕ) (L n : ℕ) → map (drop 32) (openings (parties_left seals L n)) ≡ opened_rows seals L n
unfolding opened_rows
rows_are seals L zero = refl
rows_are seals L (suc n) =
    ap (λ (ps : List Party). map (drop 32) (openings ps)) (ap (λ (k : ℕ). map (party_left seals L) (range_with_len 0 k)) (sym (add-one n)) ∙ map-range_with_len_more (party_left seals L) 0 n n (omega arith))
    ∙ (ap (map (drop 32)) (openings_more (parties_left seals L n) (party_left seals L n))
    ∙ (map-append (drop 32) (openings (parties_left seals L n)) (option_to_list (party_left seals L n).opening)
    ∙ (ap (λ (rows : List (List ℕ)). rows ++ map (drop 32) (option_to_list (party_left seals L n).opening)) (rows_are seals L n)
    ∙ ap (λ (rows : List (List ℕ)). opened_rows seals L n ++ rows) (last (has_opened seals L n)))))
  where
    last : (b : Bool) → map (drop 32) (option_to_list (cond b (Some (opening_in seals L n)) None)) ≡ cond b (drop 32 (opening_in seals L n) ∷ []) []
    last true = refl
    last false = refl

-- and they are counted
pub openings_counted : (seals : List ℕ) (L n : ℕ) → length (openings (parties_left seals L n)) ≡ opened_count seals L n
openings_counted seals L zero = refl
openings_counted seals L (suc n) =
    ap (λ (ps : List Party). length (openings ps)) (ap (λ (k : ℕ). map (party_left seals L) (range_with_len 0 k)) (sym (add-one n)) ∙ map-range_with_len_more (party_left seals L) 0 n n (omega arith))
    ∙ (ap length (openings_more (parties_left seals L n) (party_left seals L n))
    ∙ (length-append (openings (parties_left seals L n)) (option_to_list (party_left seals L n).opening)
    ∙ (ap (λ (k : ℕ). k + length (option_to_list (party_left seals L n).opening)) (openings_counted seals L n) ∙ ap (λ (k : ℕ). opened_count seals L n + k) (last (has_opened seals L n)))))
  where
    last : (b : Bool) → length (option_to_list (cond b (Some (opening_in seals L n)) None)) ≡ cond b 1 0
    last true = refl
    last false = refl

module _ (e : Ended) (i : AtEnd e) (t : Typed (ended e)) where
  -- a record lies whole in its memory
  record_room : (k : ℕ) → k < e.parties → record_size e.list.length * k + record_size e.list.length ≤ length e.held.seals
  record_room k l = let a = later_place (record_size e.list.length) k e.parties l in let b = i.closed.records_room in omega (arith, a, b)

  party_right : (k : ℕ) → k < e.parties → (b : Bool) → has_opened e.held.seals e.list.length k ≡ b
      → MatchOption (cond b (Some (opening_in e.held.seals e.list.length k)) None) (Unit {0})
      (Opening e.list.hash e.list.length k (seal_in e.held.seals e.list.length k))
  party_right k l false h = tt
  party_right k l true h =
      let seals : List ℕ = e.held.seals in
      let L : ℕ = e.list.length in
      let at : ℕ = record_size L * k in
      let r = record_room k l in
      record {
        long = length-take-le (32 + L) (drop (at + 33) seals) (omega (arith, r, length-drop (at + 33) seals));
        bytes = bytes_take (32 + L) (drop (at + 33) seals) (bytes_drop (at + 33) seals t.1);
        gives = i.closed.given k l h;
      }

  each_party : (k : ℕ) → k < e.parties
      → PartyOf (sha256 (packed_rows (listed e.held.slots e.held.index e.list.count))) e.list.length k (party_left e.held.seals e.list.length k)
  each_party k l =
      let seals : List ℕ = e.held.seals in
      let L : ℕ = e.list.length in
      let at : ℕ = record_size L * k in
      let r = record_room k l in
      subst (λ (hash : List ℕ). PartyOf hash L k (party_left seals L k)) i.closed.hash
      (record {
        long = length-take-le 32 (drop at seals) (omega (arith, r, length-drop at seals));
        bytes = bytes_take 32 (drop at seals) (bytes_drop at seals t.1);
        opened = party_right k l (has_opened seals L k) refl;
      })

  each_name : (k : ℕ) → k < e.list.count → Name (get_or (listed e.held.slots e.held.index e.list.count) k [])
  each_name k l =
      let s = list_of e.held e.list.count in
      let w = name_lengths s i.closed.names k l in
      let m = length_names s i.closed.names in
      let slot : ℕ = get_or (take e.list.count e.held.index) k 0 in
      record {
        some = w.0;
        short = w.1;
        bytes =
            subst Bytes (sym (get_or-map (name_in e.held.slots) (take e.list.count e.held.index) k 0 [] (omega (arith, m, length-map (take e.list.count e.held.index) (name_in e.held.slots)))))
            (bytes_take (get_or e.held.slots (slot_size * slot) 0) (drop (slot_size * slot + 1) e.held.slots) (bytes_drop (slot_size * slot + 1) e.held.slots t.0));
      }

  pub of_draw : OfDraw (protocol_left e)
  of_draw =
      let s = list_of e.held e.list.count in
      let c = i.closed in
      let seals : List ℕ = e.held.seals in
      let L : ℕ = e.list.length in
      let n = length_names s c.names in
      let p = length-map-range_with_len (party_left seals L) 0 e.parties in
      record {
        some_names = omega (arith, n, c.some_names);
        few_names = omega (arith, n, c.few_names);
        each_name = λ k l. each_name k (omega (arith, n, l));
        sorted = c.names.sorted;
        enough_bits = c.enough_bits;
        few_bits = c.few_bits;
        some_parties = omega (arith, p, i.some_parties);
        few_parties = omega (arith, p, c.few_parties);
        each_party =
            λ k l.
            let m : k < e.parties = omega (arith, p, l) in
            subst (PartyOf (sha256 (packed_rows (listed e.held.slots e.held.index e.list.count))) L k)
            (sym (get_or-map-range_with_len (party_left seals L) 0 e.parties k k no_party m (omega arith))) (each_party k m);
        some_opened = let q = openings_counted seals L e.parties in omega (arith, q, i.some_opened);
        drawn =
            i.order
            ∙ (ap (λ (k : ℕ). ordered (drawn_order k (take L e.held.bits) 0)) (sym n)
            ∙ ap (λ (x : List ℕ). ordered (drawn_order (length (listed e.held.slots e.held.index e.list.count)) x 0))
            (c.sum ∙ ap (sum_of L) (sym (rows_are seals L e.parties))));
      }

  -- what is told of it is what the draw printed
  pub acceptance_is : acceptance (protocol_left e) ≡ accepted e.list.count e.parties (opened_count e.held.seals e.list.length e.parties) (order_of e)
  acceptance_is =
      let s = list_of e.held e.list.count in
      let seals : List ℕ = e.held.seals in
      let L : ℕ = e.list.length in
      λ j.
      accepted (length_names s i.closed.names j) (length-map-range_with_len (party_left seals L) 0 e.parties j) (openings_counted seals L e.parties j) (order_of e)

pub run_protocols : RunProtocols
run_protocols file e b h =
    let i = end_sound file e h in
    let t : Typed (ended e) = subst Typed h (runs_typed file b) in
    (of_draw e i t, ap verdict_text (acceptance_is e i t))
