-- Bytes of the right shape are written from what is read of them. Assumes nothing.
use Rattle.std.proofs.Common.{◌≡◌, ℕ, zero, suc, ◌+◌, ◌-◌, ◌*◌, ◌<◌, ◌≤◌, cond, eqb, List, [], ◌∷◌, ◌++◌, map, length, get_or, take, drop, Some, None, sym, refl, ap, ◌∙◌, append_assoc, append-nil, add-zero, add-one, arith, take-add}
use Rattle.std.specs.List.{range_with_len, flat_map}
use Rattle.std.proofs.lemmas.List.FromFn.{map-range_with_len_more}
use Rattle.std.proofs.lemmas.List.{take_more, append_cancel_left}
use Rattle.entries.specs.Rows.{packed, packed_rows}
use Rattle.protocol.specs.Draws.{Bytes}
use Rattle.protocol.specs.Layout.{word_at, name_count, name_at, name_of, length_at, bits_length, party_count, opening_size, party_at, party_of, parties_of, order_at, numbers_at, size}
use Rattle.protocol.specs.Protocol.{word, written_party, written_opening}
use Rattle.protocol.proofs.Writes.{joined_on}
use Rattle.protocol.proofs.Fronts.{part_long, word_read}
use Rattle.protocol.proofs.Places.{name_first, name_last, party_last, middle_last, order_last}

module _ (B : List ℕ) (byte : Bytes B) (whole : size B ≡ length B) where
  -- all places are within the bytes
  order_within : order_at B + 1 ≤ length B
  order_within = let h = order_last B in omega arith

  middle_within : length_at B + 3 + 1 ≤ length B
  middle_within = let h = order_within in let m = middle_last B in omega arith

  module _ (k : ℕ) (h : k < name_count B) where
    pub name_within : name_at B k + 1 + get_or B (name_at B k) 0 ≤ length_at B
    unfolding name_at
    name_within = name_last B (suc k) (omega arith)

    pub name_long : length (name_of B k) ≡ get_or B (name_at B k) 0
    name_long = part_long B (name_at B k + 1) (get_or B (name_at B k) 0) (let m = middle_within in let w = name_within in omega arith)

    name_front : take (name_at B k + 1 + get_or B (name_at B k) 0) B ≡ take (name_at B k) B ++ packed (name_of B k)
    name_front =
        let at : ℕ = name_at B k in
        let len : ℕ = get_or B at 0 in
        let m = middle_within in
        let w = name_within in
        take-add (at + 1) len B ∙ rw (take_more B at 0 (omega arith), append_assoc (take at B) (len ∷ []) (name_of B k)) (ap (λ (z : ℕ). take at B ++ (z ∷ name_of B k)) (sym name_long))

  pub names_front : (k : ℕ) → k ≤ name_count B → take (name_at B k) B ≡ take 2 B ++ packed_rows (map (name_of B) (range_with_len 0 k))
  unfolding name_at
  names_front zero h = sym (append-nil (take 2 B))
  names_front (suc k) h =
      joined_on packed (take 2 B) (take (name_at B k) B) (take (name_at B k + 1 + get_or B (name_at B k) 0) B) (map (name_of B) (range_with_len 0 k)) (map (name_of B) (range_with_len 0 (suc k))) (name_of B k)
      (names_front k (omega arith)) (name_front k (omega arith))
      (ap (λ (i : ℕ). map (name_of B) (range_with_len 0 i)) (sym (add-one k)) ∙ map-range_with_len_more (name_of B) 0 k k (omega arith))

  -- the names as they stand
  pub names_stand : packed_rows (map (name_of B) (range_with_len 0 (name_count B))) ≡ take (length_at B - 2) (drop 2 B)
  unfolding length_at
  names_stand =
      let f = name_first B (name_count B) in
      append_cancel_left (take 2 B) _ _
      (sym (names_front (name_count B) (omega arith))
      ∙ (ap (λ (i : ℕ). take i B) (let z : name_at B (name_count B) ≡ 2 + (name_at B (name_count B) - 2) = omega arith in z) ∙ take-add 2 (name_at B (name_count B) - 2) B))

  middle_front : take (length_at B + 3) B ≡ take (length_at B) B ++ (word (bits_length B) ++ (party_count B ∷ []))
  unfolding bits_length party_count
  middle_front =
      let m = middle_within in
      let e : length_at B + 3 ≡ length_at B + 2 + 1 = omega arith in
      rw (e, take_more B (length_at B + 2) 0 (omega arith), take-add (length_at B) 2 B, word_read B byte (length_at B) (omega arith)) (simp append_assoc)

  module _ (k : ℕ) (h : k < party_count B) where
    pub party_within : party_at B k + 33 + opening_size (get_or B (party_at B k + 32) 0) (bits_length B) ≤ order_at B
    unfolding party_at
    party_within = party_last B (suc k) (omega arith)

    -- the seal, and the byte behind it
    seal_front : take (party_at B k + 33) B ≡ take (party_at B k) B ++ (take 32 (drop (party_at B k) B) ++ (get_or B (party_at B k + 32) 0 ∷ []))
    seal_front =
        let at : ℕ = party_at B k in
        let w = order_within in
        let v = party_within in
        let e : at + 33 ≡ at + 32 + 1 = omega arith in
        rw (e, take_more B (at + 32) 0 (omega arith), take-add at 32 B) (append_assoc (take at B) (take 32 (drop at B)) (get_or B (at + 32) 0 ∷ []))

    opened_front : (b L : ℕ) → get_or B (party_at B k + 32) 0 ≡ b → b ≤ 1
        → take (party_at B k + 33 + opening_size b L) B ≡ take (party_at B k) B ++ (take 32 (drop (party_at B k) B) ++ written_opening (cond (eqb b 1) (Some (take (32 + L) (drop (party_at B k + 33) B))) None))
    opened_front zero L e l =
        rw add-zero (rw (← e) seal_front)
    opened_front (suc zero) L e l =
        let at : ℕ = party_at B k in
        let seal : List ℕ = take 32 (drop at B) in
        let x : List ℕ = take (32 + L) (drop (at + 33) B) in
        take-add (at + 33) (32 + L) B ∙ rw (seal_front, e) (simp append_assoc)
    opened_front (suc (suc b)) L e l = absurd (omega arith)

    party_front : get_or B (party_at B k + 32) 0 ≤ 1
        → take (party_at B k + 33 + opening_size (get_or B (party_at B k + 32) 0) (bits_length B)) B ≡ take (party_at B k) B ++ written_party (party_of B k)
    party_front l = opened_front (get_or B (party_at B k + 32) 0) (bits_length B) refl l

  module _ (marks : (k : ℕ) → k < party_count B → get_or B (party_at B k + 32) 0 ≤ 1) where
    parties_front : (k : ℕ) → k ≤ party_count B → take (party_at B k) B ≡ take (length_at B + 3) B ++ flat_map written_party (map (party_of B) (range_with_len 0 k))
    unfolding party_at
    parties_front zero h = sym (append-nil (take (length_at B + 3) B))
    parties_front (suc k) h =
        joined_on written_party (take (length_at B + 3) B) (take (party_at B k) B) (take (party_at B k + 33 + opening_size (get_or B (party_at B k + 32) 0) (bits_length B)) B)
        (map (party_of B) (range_with_len 0 k)) (map (party_of B) (range_with_len 0 (suc k))) (party_of B k)
        (parties_front k (omega arith)) (party_front k (omega arith) (marks k (omega arith)))
        (ap (λ (i : ℕ). map (party_of B) (range_with_len 0 i)) (sym (add-one k)) ∙ map-range_with_len_more (party_of B) 0 k k (omega arith))

    -- all before the order
    pub order_front : take (order_at B) B
        ≡ word (name_count B) ++ (packed_rows (map (name_of B) (range_with_len 0 (name_count B))) ++ (word (bits_length B) ++ (party_count B ∷ flat_map written_party (parties_of B))))
    unfolding order_at length_at name_count
    order_front =
        let m = middle_within in
        let first : take 2 B ≡ word (name_count B) = word_read B byte 0 (omega arith) in
        parties_front (party_count B) (omega arith) ∙ rw (middle_front, names_front (name_count B) (omega arith), first) (simp append_assoc)

  -- the numbers behind a place
  pub numbers_front : (at k : ℕ) → at + 2 * k ≤ length B → take (at + 2 * k) B ≡ take at B ++ flat_map word (numbers_at B at k)
  numbers_front at zero h = let e : at + 2 * 0 ≡ at = omega arith in rw e (sym (append-nil (take at B)))
  numbers_front at (suc k) h =
      joined_on word (take at B) (take (at + 2 * k) B) (take (at + 2 * suc k) B) (numbers_at B at k) (numbers_at B at (suc k)) (word_at B (at + 2 * k))
      (numbers_front at k (omega arith))
      (ap (λ (i : ℕ). take i B) (let z : at + 2 * suc k ≡ at + 2 * k + 2 = omega arith in z)
      ∙ (take-add (at + 2 * k) 2 B ∙ ap (λ (z : List ℕ). take (at + 2 * k) B ++ z) (word_read B byte (at + 2 * k) (omega arith))))
      (ap (λ (i : ℕ). numbers_at B at i) (sym (add-one k)) ∙ map-range_with_len_more (λ (j : ℕ). word_at B (at + 2 * j)) 0 k k (omega arith))
