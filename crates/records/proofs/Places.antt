-- The parties' records lie one behind the other, so what is written into one leaves the others as they are. Assumes nothing.
use Rattle.std.proofs.lemmas.Grind.{common_steps}
use Rattle.std.proofs.Common.{◌≡◌, ℕ, ◌+◌, ◌*◌, ◌<◌, ◌≤◌, ltb, ◌⊎◌, List, length, ap, inl, inr, ⊎_elim, arith}
use lib.Seq.{paste}
use Rattle.seals.specs.Records.{record_size}
use Rattle.records.specs.Laws.{Same}
use Rattle.records.proofs.Pasted.{part_apart, element_apart}

-- the next record begins where this one ends, and each later one there or behind
pub next_place : (size k : ℕ) → size * (k + 1) ≡ size * k + size
next_place size k = grind (arith, common_steps)

pub later_place : (size k party : ℕ) → k < party → size * k + size ≤ size * party
later_place size k party h = grind (arith, common_steps)

-- a record that what is written does not meet
pub same_apart : (d : List ℕ) (at : ℕ) (s : List ℕ) (m len k : ℕ) → m ≡ length s → at + m ≤ length d
    → (record_size len * k + record_size len ≤ at) ⊎ (at + m ≤ record_size len * k) → Same d (paste d at s m) len k
same_apart d at s m len k whole fits h =
    let p : ℕ = record_size len * k in
    let away : (from n : ℕ) → from + n ≤ record_size len → (p + from + n ≤ at) ⊎ (at + m ≤ p + from) =
    λ (from n : ℕ) (in_record : from + n ≤ record_size len).
    ⊎_elim (λ (b : p + record_size len ≤ at). inl (omega arith)) (λ (b : at + m ≤ p). inr (omega arith)) h in
    record {
      seal = part_apart d at s m whole fits p 32 (⊎_elim (λ b. inl (omega arith)) (λ b. inr b) h);
      mark = ap (ltb 0) (element_apart d at s m whole fits (p + 32) 0 (away 32 1 (omega arith)));
      opening = part_apart d at s m whole fits (p + 33) (32 + len) (away 33 (32 + len) (omega arith));
    }
