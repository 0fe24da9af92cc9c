-- The script of a protocol makes it again. Assumes nothing.
use Rattle.std.proofs.Common.{◌≡◌, ℕ, suc, ◌<◌, ◌≤◌, Bool, true, cond, List, [], ◌∷◌, map, length, get_or, drop, is_some, IfSome, Some, None, Option, unwrap_or, sym, refl, ap, ◌∙◌, subst, arith}
use Rattle.std.specs.List.{range_with_len}
use Rattle.std.proofs.lemmas.List.FromFn.{fill_by_all}
use Rattle.std.proofs.lemmas.List.{length-map, get_or-map, take_all}
use Rattle.std.proofs.lemmas.List.Sorted.{IsPermutation-refl}
use Rattle.sha256.specs.Sha256.{sha256}
use Rattle.entries.specs.Rows.{packed_rows}
use Rattle.seals.specs.Seal.{seal_of}
use Rattle.seals.specs.Records.{seal_in, has_opened, opening_in}
use Rattle.order.specs.Drawings.{drawn_order}
use Rattle.sum.specs.Sums.{sum_of}
use Rattle.protocol.specs.Protocol.{Party, Protocol, openings, written, ordered}
use Rattle.protocol.specs.Check.{verdict}
use Rattle.protocol.specs.Draws.{Bytes, Opening, OfDraw, no_party}
use Rattle.protocol.specs.Finished.{party_left}
use Rattle.protocol.proofs.AcceptsOnlyDrawn.{accepts_only_drawn}
use Rattle.ceremony.specs.Model.{Ended}
use Rattle.ceremony.specs.Reports.{protocol_left}
use Rattle.runs.specs.Reports.{Told}
use Rattle.scripts.specs.Script.{Script, Right, among, row_of, rows_of, script_steps, entry_of, seal_step_of, opening_steps}
use Rattle.scripts.specs.Fair.{script_file}
use Rattle.scripts.specs.Whole.{Ends}
use Rattle.scripts.specs.Made.{MadeBySteps}
use Rattle.scripts.proofs.Files.{Row, Fits, fits_append, fits_map, fits_openings, row_word, file_bytes}
use Rattle.scripts.proofs.Numbers.{opened_numbers, opening_or_none, numbers_fine, numbers_rise, among_numbers, numbers_openings}
use Rattle.scripts.proofs.Whole.{Left, script_run}
use Rattle.scripts.proofs.Printed.{reported}

-- the script of a protocol: the names are entered in their order, and the openings come in that of the parties
abbrev script_of : Protocol → Script
script_of d =
    record {
      names = d.names;
      entered = d.names;
      len = d.bits_length;
      seals = map (λ (p : Party). p.seal) d.parties;
      openings = map opening_or_none d.parties;
      comes = opened_numbers d.parties (length d.parties);
    }

module _ (d : Protocol) (o : OfDraw d) where
  abbrev ps : List Party
  ps = d.parties

  abbrev hash : List ℕ
  hash = sha256 (packed_rows d.names)

  -- the opening of a party that opened
  opening_of : (k : ℕ) → k < length ps → (op : Option (List ℕ)) → (get_or ps k no_party).opening ≡ op → is_some op ≡ true
      → Opening hash d.bits_length k (get_or ps k no_party).seal (unwrap_or op [])
  opening_of k l None e h = absurd cc
  opening_of k l (Some x) e h =
      subst (λ (q : Option (List ℕ)). IfSome q (Opening hash d.bits_length k (get_or ps k no_party).seal)) e (o.each_party k l).opened

  opening_at : (k : ℕ) → k < length ps → get_or (map opening_or_none ps) k [] ≡ opening_or_none (get_or ps k no_party)
  opening_at k l = get_or-map opening_or_none ps k no_party [] l

  seal_at : (k : ℕ) → k < length ps → get_or (map (λ (p : Party). p.seal) ps) k [] ≡ (get_or ps k no_party).seal
  seal_at k l = get_or-map (λ (p : Party). p.seal) ps k no_party [] l

  abbrev comes : List ℕ
  comes = opened_numbers ps (length ps)

  comes_openings : map (λ (k : ℕ). opening_or_none (get_or ps k no_party)) comes ≡ openings ps
  comes_openings = numbers_openings ps (length ps) (omega arith) ∙ ap openings (take_all (length ps) ps (omega arith))

  comes_counted : length comes ≡ length (openings ps)
  comes_counted = sym (length-map comes (λ (k : ℕ). opening_or_none (get_or ps k no_party))) ∙ ap length comes_openings

  same_rows : (ks : List ℕ) → ((i : ℕ) → i < length ks → get_or ks i 0 < length ps)
      → map (row_of (map opening_or_none ps)) ks ≡ map (drop 32) (map (λ (k : ℕ). opening_or_none (get_or ps k no_party)) ks)
  same_rows [] f = refl
  same_rows (k ∷ ks) f =
      let a = ap (drop 32) (opening_at k (f 0 (omega arith))) in
      let b = same_rows ks (λ i l. f (suc i) (omega (arith, l))) in
      λ j. a j ∷ b j

  rows_are : rows_of (script_of d) ≡ map (drop 32) (openings ps)
  rows_are = same_rows comes (λ i l. (numbers_fine ps (length ps) i l).0) ∙ ap (map (drop 32)) comes_openings

  came : (i : ℕ) → i < length comes → Opening hash d.bits_length (get_or comes i 0) (get_or ps (get_or comes i 0) no_party).seal (opening_or_none (get_or ps (get_or comes i 0) no_party))
  came i l = let f = numbers_fine ps (length ps) i l in opening_of (get_or comes i 0) f.0 (get_or ps (get_or comes i 0) no_party).opening refl f.1

  made_right : Right (script_of d)
  made_right =
      let n = length-map ps (λ (p : Party). p.seal) in
      record {
        some_names = o.some_names;
        few_names = o.few_names;
        each_name = λ x h. subst (λ (y : List ℕ). (0 < length y) × (length y ≤ 64)) (h.2 []) (let w = o.each_name h.0 h.1 in (w.some, w.short));
        sorted = o.sorted;
        same_names = IsPermutation-refl d.names;
        enough_bits = o.enough_bits;
        few_bits = o.few_bits;
        some_parties = omega (arith, n, o.some_parties);
        few_parties = omega (arith, n, o.few_parties);
        as_many = length-map ps opening_or_none ∙ sym n;
        each_seal = λ k l. let m : k < length ps = omega (arith, n, l) in ap length (seal_at k m) ∙ (o.each_party k m).long;
        some_comes = omega (arith, comes_counted, o.some_opened);
        each_comes = λ i l. let f = (numbers_fine ps (length ps) i l).0 in omega (arith, n, f);
        comes_once = λ i j l m e. let q = numbers_rise ps (length ps) i j l m in omega (arith, q, e);
        each_opening = λ i l. let f = (numbers_fine ps (length ps) i l).0 in ap length (opening_at (get_or comes i 0) f) ∙ (came i l).long;
        gives =
            λ i l.
            let f = (numbers_fine ps (length ps) i l).0 in
            ap (seal_of hash (get_or comes i 0)) (opening_at (get_or comes i 0) f) ∙ ((came i l).gives ∙ sym (seal_at (get_or comes i 0) f));
      }

  -- its file is a file of bytes
  made_bytes : Bytes (script_file (script_of d))
  made_bytes =
      let names : Fits (map entry_of d.names) =
      fits_map 1 d.names (omega arith) (λ k l. let w = o.each_name k l in (w.bytes, let n = w.short in omega (arith, n))) in
      let seals : Fits (map seal_step_of (script_of d).seals) =
      fits_map 3 (script_of d).seals (omega arith)
      (λ k l.
      let m : k < length ps = omega (arith, length-map ps (λ (p : Party). p.seal), l) in
      subst Row (sym (seal_at k m)) ((o.each_party k m).bytes, let n = (o.each_party k m).long in omega (arith, n))) in
      let openings : Fits (opening_steps (script_of d).openings comes) =
      fits_openings (script_of d).openings comes
      (λ i l.
      let f = (numbers_fine ps (length ps) i l).0 in
      let g = came i l in
      let e = opening_at (get_or comes i 0) f in
      let n = ap length e ∙ g.long in
      (omega (arith, f, o.few_parties), subst Bytes (sym e) g.bytes, omega (arith, n, o.few_bits))) in
      let none : Row [] = (λ i. omega arith, omega arith) in
      let last : Fits ((6, []) ∷ []) = (omega arith, none, tt) in
      file_bytes (script_steps (script_of d))
      (fits_append (map entry_of d.names) _ names (
        omega arith,
        row_word d.bits_length (omega (arith, o.few_bits)),
        fits_append (map seal_step_of (script_of d).seals) _ seals (omega arith, none, fits_append (opening_steps (script_of d).openings comes) _ openings last),
      ))

  module _ (e : Ended) (i : Ends (script_of d) e) (m : Left (script_of d) e) where
    seals_many : length (map (λ (p : Party). p.seal) ps) ≡ length ps
    seals_many = length-map ps (λ (p : Party). p.seal)

    -- a party's record tells its opening
    opening_left : (k : ℕ) → k < length ps → (op : Option (List ℕ)) → (get_or ps k no_party).opening ≡ op
        → op ≡ cond (has_opened e.held.seals e.list.length k) (Some (opening_in e.held.seals e.list.length k)) None
    opening_left k l op q = go op q
      where
        mark : has_opened e.held.seals e.list.length k ≡ is_some (get_or ps k no_party).opening
        mark = m.marks k (let n = seals_many in omega (arith, n, l)) ∙ among_numbers ps k (length ps) l

        go : (op : Option (List ℕ)) → (get_or ps k no_party).opening ≡ op → op ≡ cond (has_opened e.held.seals e.list.length k) (Some (opening_in e.held.seals e.list.length k)) None
        go None q = sym (ap (λ (b : Bool). cond b (Some (opening_in e.held.seals e.list.length k)) None) (mark ∙ ap (λ (x : Option (List ℕ)). is_some x) q))
        go (Some x) q =
            let t : among k comes ≡ true = among_numbers ps k (length ps) l ∙ ap (λ (y : Option (List ℕ)). is_some y) q in
            let w : opening_in e.held.seals e.list.length k ≡ x =
            m.openings k (let n = seals_many in omega (arith, n, l)) t ∙ (opening_at k l ∙ ap (λ (y : Option (List ℕ)). unwrap_or y []) q) in
            sym (ap (λ (b : Bool). cond b (Some (opening_in e.held.seals e.list.length k)) None) (mark ∙ ap (λ (y : Option (List ℕ)). is_some y) q) ∙ ap Some w)

    party_is : (k : ℕ) → k < length ps → get_or ps k no_party ≡ party_left e.held.seals e.list.length k
    party_is k l =
        let a : (get_or ps k no_party).seal ≡ seal_in e.held.seals e.list.length k = sym (m.seals k (let n = seals_many in omega (arith, n, l)) ∙ seal_at k l) in
        let b = opening_left k l (get_or ps k no_party).opening refl in
        λ j. record { seal = a j; opening = b j }

    pub made_again : protocol_left e ≡ d
    made_again =
        let p : map (party_left e.held.seals e.list.length) (range_with_len 0 e.parties) ≡ ps =
        ap (λ (n : ℕ). map (party_left e.held.seals e.list.length) (range_with_len 0 n)) (i.parties ∙ seals_many)
        ∙ sym (fill_by_all (party_left e.held.seals e.list.length) ps (length ps) no_party refl party_is) in
        let q = i.order ∙ (ap (λ (rows : List (List ℕ)). ordered (drawn_order (length d.names) (sum_of d.bits_length rows) 0)) rows_are ∙ sym o.drawn) in
        λ j. record { names = m.names j; bits_length = m.len j; parties = p j; order = q j }

pub made_by_steps : MadeBySteps
made_by_steps bytes names parties opened order b h =
    let drawn = accepts_only_drawn bytes (verdict bytes) b refl names parties opened order h in
    let d : Protocol = drawn.0 in
    let s : Script = script_of d in
    let w = script_run s (made_right d drawn.1) in
    let e : Ended = w.0 in
    let i = w.1 in
    let t = reported (script_steps s) e i.run i.none_refused in
    (script_file s, made_bytes d drawn.1, ap (λ (r : Told). r.ending) t, ap (λ (r : Told). r.protocol) t ∙ (ap written (made_again d drawn.1 e i w.2) ∙ drawn.2))
