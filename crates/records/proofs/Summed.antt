-- The sum of the openings, as seals and openings come. Assumes nothing.
use Rattle.std.proofs.Common.{◌≡◌, ℕ, zero, suc, ◌<◌, Bool, true, false, cond, List, [], ◌∷◌, ◌++◌, drop, sym, ap, ◌∙◌, ap₂, ⊎_elim, add-one, arith}
use Rattle.std.proofs.lemmas.List.{append-nil}
use Rattle.std.proofs.lemmas.Bool.{cases_eq}
use Rattle.sum.specs.Sums.{xor_bytes, sum_of}
use Rattle.seals.specs.Records.{has_opened, opening_in}
use Rattle.seals.specs.Steps.{sealed, opened}
use Rattle.records.specs.Records.{row_of, opened_rows}
use Rattle.records.specs.Laws.{Same, OpeningSummed, SealUnsummed}
use Rattle.records.proofs.Turned.{sum_push, sum_turn}
use Rattle.records.proofs.Rows.{same_row, same_rows, row_none, row_one}
use Rattle.records.proofs.Kept.{seal_taken, opening_taken}

-- the last record's row under a sum to which another row is added
sum_under : (L : ℕ) (xs ys : List (List ℕ)) (row : List ℕ) (b : Bool) (o : List ℕ) → sum_of L ys ≡ xor_bytes (sum_of L xs) row
    → sum_of L (ys ++ cond b (o ∷ []) []) ≡ xor_bytes (sum_of L (xs ++ cond b (o ∷ []) [])) row
sum_under L xs ys row true o e =
    sum_push L ys o
    ∙ (ap (λ (s : List ℕ). xor_bytes s o) e ∙ (sum_turn L xs row o ∙ ap (λ (s : List ℕ). xor_bytes s row) (sym (sum_push L xs o))))
sum_under L xs ys row false o e = simp append-nil e

-- one record gives a row that it did not give, and the others stay
module _ (before after : List ℕ) (len party : ℕ) (row : List ℕ) (none : row_of before len party ≡ []) (one : row_of after len party ≡ row ∷ [])
    (same : (k : ℕ) → (k ≡ party → ⊥) → Same before after len k) where
  pub rows_summed : (n : ℕ) → party < n → sum_of len (opened_rows after len n) ≡ xor_bytes (sum_of len (opened_rows before len n)) row
  unfolding opened_rows
  rows_summed zero h = absurd (omega arith)
  rows_summed (suc n) h =
      ⊎_elim
      (λ (e : n ≡ party).
      let now : row_of after len n ≡ row ∷ [] = ap (row_of after len) e ∙ one in
      let old : row_of before len n ≡ [] = ap (row_of before len) e ∙ none in
      let rows : opened_rows after len n ≡ opened_rows before len n = same_rows before after len n (λ k l. same k (λ q. omega arith)) in
      ap₂ (λ (p q : List (List ℕ)). sum_of len (p ++ q)) rows now
      ∙ (sum_push len (opened_rows before len n) row
      ∙ ap (λ (z : List (List ℕ)). xor_bytes (sum_of len z) row) (sym (ap (λ (z : List (List ℕ)). opened_rows before len n ++ z) old ∙ append-nil (opened_rows before len n)))))
      (λ (other : n ≡ party → ⊥).
      ap (λ (z : List (List ℕ)). sum_of len (opened_rows after len n ++ z)) (same_row before after len n (same n other))
      ∙ sum_under len (opened_rows before len n) (opened_rows after len n) row (has_opened before len n) (drop 32 (opening_in before len n)) (rows_summed n (omega arith)))
      (cases_eq n party)

pub opening_summed : OpeningSummed
opening_summed seals context x len parties party e =
    let after : List ℕ = (opened seals len parties context party x).seals in
    let k = opening_taken seals context x len parties party e in
    rows_summed seals after len party (drop 32 x) (row_none seals len party k.first) (row_one after x len party k.mark k.opening) k.others parties k.exists

pub seal_unsummed : SealUnsummed
unfolding opened_rows
seal_unsummed seals x len parties n e =
    let after : List ℕ = (sealed seals len parties x).seals in
    let t = seal_taken seals x len parties n e in
    ap (opened_rows after len) (t.0 ∙ add-one parties)
    ∙ (ap₂ ◌++◌ (same_rows seals after len parties t.1.others) (row_none after len parties t.1.unopened) ∙ append-nil (opened_rows seals len parties))
