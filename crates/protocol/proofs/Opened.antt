-- The openings of the parties so far. Assumes nothing.
use Rattle.std.proofs.Common.{◌≡◌, ℕ, zero, suc, ◌+◌, ◌-◌, ◌≤◌, Bool, true, false, cond, List, [], ◌∷◌, ◌++◌, map, length, drop, Some, None, sym, refl, ap, ◌∙◌, arith}
use Rattle.std.specs.List.{range_with_len, filter}
use Rattle.std.specs.Option.{option_to_list}
use Rattle.std.proofs.lemmas.List.FromFn.{map-range_with_len_more}
use Rattle.std.proofs.lemmas.List.Sums.{length-filter, count_by-le-length}
use Rattle.std.proofs.lemmas.List.{flat_map_more, map-append}
use Rattle.sum.specs.Sums.{sum_from, xor_bytes}
use Rattle.protocol.specs.Layout.{opened_in, party_of}
use Rattle.protocol.specs.Protocol.{Party, openings}
use Rattle.protocol.specs.Walk.{numbers_between}
use Rattle.protocol.proofs.Turns.{turns}

-- rows added after others
pub sum_append : (s : List ℕ) (rows more : List (List ℕ)) → sum_from s (rows ++ more) ≡ sum_from (sum_from s rows) more
unfolding sum_from
sum_append s [] more = refl
sum_append s (r ∷ rows) more = sum_append (xor_bytes s r) rows more

module _ (bytes : List ℕ) where
  -- the openings of the first k parties
  abbrev pub so_far : ℕ → List (List ℕ)
  so_far k = openings (map (party_of bytes) (range_with_len 0 k))

  pub more : (k : ℕ) → so_far (k + 1) ≡ so_far k ++ option_to_list (party_of bytes k).opening
  more k =
      ap openings (map-range_with_len_more (party_of bytes) 0 k k (omega arith))
      ∙ sym (flat_map_more (λ (p : Party). option_to_list p.opening) [] (map (party_of bytes) (range_with_len 0 k)) (party_of bytes k))

  -- the bits of one more party added to the sum
  pub summed_more : (s was after : List ℕ) (k : ℕ) → was ≡ sum_from s (map (drop 32) (so_far k)) → after ≡ sum_from was (map (drop 32) (option_to_list (party_of bytes k).opening))
      → after ≡ sum_from s (map (drop 32) (so_far (k + 1)))
  summed_more s was after k h e =
      let new : List (List ℕ) = option_to_list (party_of bytes k).opening in
      e ∙ rw (h, more k, map-append (drop 32) (so_far k) new) (sym (sum_append s (map (drop 32) (so_far k)) (map (drop 32) new)))

  abbrev opens : List ℕ × ℕ → Bool
  opens p = opened_in p.0 p.1

  -- as many parties opened as there are openings
  counted_more : (t : Bool) (x : List ℕ) (p : List ℕ × ℕ) (ps : List (List ℕ × ℕ)) (xs : List (List ℕ)) → length ps ≡ length xs
      → length (cond t (p ∷ ps) ps) ≡ length (option_to_list (cond t (Some x) None) ++ xs)
  counted_more true x p ps xs h = ap (λ (m : ℕ). suc m) h
  counted_more false x p ps xs h = h

  counted_from : (a n : ℕ) → length (filter opens (map (λ (k : ℕ). (bytes, k)) (range_with_len a n))) ≡ length (openings (map (party_of bytes) (range_with_len a n)))
  counted_from a zero = refl
  counted_from a (suc n) = counted_more (opened_in bytes a) _ (bytes, a) _ _ (counted_from (a + 1) n)

  pub opened_filter : (n : ℕ) → length (filter opens (numbers_between bytes 0 n)) ≡ length (openings (map (party_of bytes) (range_with_len 0 n)))
  opened_filter n = counted_from 0 (n - 0) ∙ ap (λ (m : ℕ). length (openings (map (party_of bytes) (range_with_len 0 m)))) (let z : n - 0 ≡ n = omega arith in z)

  pub few_opened : (n : ℕ) → length (filter opens (numbers_between bytes 0 n)) ≤ n
  few_opened n = omega (arith, length-filter opens (numbers_between bytes 0 n), count_by-le-length opens (numbers_between bytes 0 n), turns bytes n)
