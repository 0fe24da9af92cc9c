-- Parties that have opened, counted along the row of their numbers. Assumes nothing.
use Rattle.std.proofs.Common.{◌≡◌, ℕ, zero, suc, ◌+◌, cond, List, sym, refl, ap, ◌∙◌, map-id, zero-add, add-one}
use Rattle.std.specs.List.{sum_by, count_by, range_with_len}
use Rattle.std.proofs.lemmas.List.FromFn.{sum_by-map-range_with_len_more}
use Rattle.seals.specs.Records.{has_opened, opened_count}

pub counted : (records : List ℕ) (len n : ℕ) → count_by (has_opened records len) (range_with_len 0 n) ≡ opened_count records len n
counted records len zero = refl
counted records len (suc n) =
    let one : ℕ → ℕ = λ k. cond (has_opened records len k) 1 0 in
    ap (λ (k : ℕ). sum_by one (range_with_len 0 k)) (sym (add-one n))
    ∙ ap (sum_by one) (sym (map-id (range_with_len 0 (n + 1))))
    ∙ sum_by-map-range_with_len_more one (λ k. k) 0 n n (zero-add n)
    ∙ ap (λ (ks : List ℕ). sum_by one ks + one n) (map-id (range_with_len 0 n))
    ∙ ap (λ (k : ℕ). k + one n) (counted records len n)
