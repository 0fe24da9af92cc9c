-- A script in which one party puts in other bits. Assumes nothing.
use Rattle.std.proofs.Common.{◌≡◌, ℕ, ◌+◌, ◌<◌, List, [], length, get_or, take, drop, set, sym, ap, ◌∙◌, ⊎_elim, arith}
use Rattle.std.proofs.lemmas.List.{length-set, length-map, length-append, length-take-le, get_or-set_same, get_or-set_other, get_or-map, drop_at, ext_get_or}
use Rattle.std.proofs.lemmas.Bool.{cases_eq, cases_order}
use Rattle.sha256.proofs.Laws.{length_sha256}
use Rattle.seals.specs.Seal.{seal_of, sealed_message}
use Rattle.scripts.specs.Script.{Script, Right, hash_of, row_of, rows_of}
use Rattle.scripts.specs.Fair.{opening_with, with_bits}

seal_length : (hash : List ℕ) (k : ℕ) (x : List ℕ) → length (seal_of hash k x) ≡ 32
unfolding seal_of
seal_length hash k x = length_sha256 (sealed_message hash k x)

module _ (s : Script) (r : Right s) (j : ℕ) (row : List ℕ) (l : j < length s.comes) (m : length row ≡ s.len) where
  -- the party, its opening with the other bits, and the seal that it gives
  abbrev party : ℕ
  party = get_or s.comes j 0

  abbrev opening : List ℕ
  opening = opening_with s party row

  abbrev seal : List ℕ
  seal = seal_of (hash_of s) party opening

  abbrev openings : List (List ℕ)
  openings = set s.openings party opening

  abbrev seals : List (List ℕ)
  seals = set s.seals party seal

  among_seals : party < length s.seals
  among_seals = r.each_comes j l

  among_openings : party < length s.openings
  among_openings = let n = r.as_many in let h = among_seals in omega (arith, n, h)

  salt_long : length (take 32 (get_or s.openings party [])) ≡ 32
  salt_long = let h = r.each_opening j l in length-take-le 32 (get_or s.openings party []) (omega (arith, h))

  opening_is : get_or openings party [] ≡ opening
  opening_is = get_or-set_same s.openings party opening [] among_openings

  seal_is : get_or seals party [] ≡ seal
  seal_is = get_or-set_same s.seals party seal [] among_seals

  opening_long : length opening ≡ 32 + s.len
  opening_long = length-append (take 32 (get_or s.openings party [])) row ∙ (let z = salt_long in omega (arith, z, m))

  pub still_right : Right (with_bits s party row)
  still_right =
      let n = length-set s.seals party seal in
      record {
        some_names = r.some_names;
        few_names = r.few_names;
        each_name = r.each_name;
        sorted = r.sorted;
        same_names = r.same_names;
        enough_bits = r.enough_bits;
        few_bits = r.few_bits;
        some_parties = omega (arith, n, r.some_parties);
        few_parties = omega (arith, n, r.few_parties);
        as_many = length-set s.openings party opening ∙ (r.as_many ∙ sym n);
        each_seal =
            λ k h.
            ⊎_elim (λ (e : k ≡ party). ap (λ (i : ℕ). length (get_or seals i [])) e ∙ (ap length seal_is ∙ seal_length (hash_of s) party opening))
            (λ (e : k ≡ party → ⊥). ap length (get_or-set_other s.seals party k seal [] e) ∙ r.each_seal k (omega (arith, n, h)))
            (cases_eq k party);
        some_comes = r.some_comes;
        each_comes = λ i h. let c = r.each_comes i h in omega (arith, n, c);
        comes_once = r.comes_once;
        each_opening =
            λ i h.
            ⊎_elim (λ (e : get_or s.comes i 0 ≡ party). ap (λ (k : ℕ). length (get_or openings k [])) e ∙ (ap length opening_is ∙ opening_long))
            (λ (e : get_or s.comes i 0 ≡ party → ⊥). ap length (get_or-set_other s.openings party (get_or s.comes i 0) opening [] e) ∙ r.each_opening i h)
            (cases_eq (get_or s.comes i 0) party);
        gives =
            λ i h.
            ⊎_elim (λ (e : get_or s.comes i 0 ≡ party).
            ap (λ (k : ℕ). seal_of (hash_of s) k (get_or openings k [])) e ∙ (ap (seal_of (hash_of s) party) opening_is ∙ (sym seal_is ∙ ap (λ (k : ℕ). get_or seals k []) (sym e))))
            (λ (e : get_or s.comes i 0 ≡ party → ⊥).
            ap (seal_of (hash_of s) (get_or s.comes i 0)) (get_or-set_other s.openings party (get_or s.comes i 0) opening [] e)
            ∙ (r.gives i h ∙ sym (get_or-set_other s.seals party (get_or s.comes i 0) seal [] e)))
            (cases_eq (get_or s.comes i 0) party);
      }

  -- of the rows that are added up, only that party's is another
  pub rows_with : rows_of (with_bits s party row) ≡ set (rows_of s) j row
  rows_with =
      ext_get_or [] (rows_of (with_bits s party row)) (set (rows_of s) j row)
      (length-map s.comes (row_of openings) ∙ sym (length-set (rows_of s) j row ∙ length-map s.comes (row_of s.openings)))
      (λ i h. each i (omega (arith, h, length-map s.comes (row_of openings))))
    where
      each : (i : ℕ) → i < length s.comes → get_or (rows_of (with_bits s party row)) i [] ≡ get_or (set (rows_of s) j row) i []
      each i h =
          get_or-map (row_of openings) s.comes i 0 [] h
          ∙ ⊎_elim (λ (e : i ≡ j).
          ap (λ (k : ℕ). row_of openings (get_or s.comes k 0)) e
          ∙ (ap (drop 32) opening_is
          ∙ (drop_at (take 32 (get_or s.openings party [])) row 32 salt_long
          ∙ (sym (get_or-set_same (rows_of s) j row [] (let n = length-map s.comes (row_of s.openings) in omega (arith, n, l))) ∙ ap (λ (k : ℕ). get_or (set (rows_of s) j row) k []) (sym e)))))
          (λ (e : i ≡ j → ⊥).
          ap (drop 32) (get_or-set_other s.openings party (get_or s.comes i 0) opening [] (apart e))
          ∙ (sym (get_or-map (row_of s.openings) s.comes i 0 [] h) ∙ sym (get_or-set_other (rows_of s) j i row [] e)))
          (cases_eq i j)
        where
          apart : (i ≡ j → ⊥) → get_or s.comes i 0 ≡ party → ⊥
          apart e q =
              ⊎_elim (λ (z : i ≡ j). e z) (⊎_elim (λ (z : i < j). r.comes_once i j z l q) (λ (z : j < i). r.comes_once j i z h (sym q))) (cases_order i j)
