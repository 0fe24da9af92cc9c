-- The rows that records give. Assumes nothing.
use Rattle.std.proofs.lemmas.Grind.{common_steps}
use Rattle.std.proofs.Common.{◌≡◌, ℕ, zero, suc, ◌<◌, true, false, List, [], ◌∷◌, ◌++◌, drop, refl, ap₂, arith}
use Rattle.seals.specs.Records.{has_opened, opening_in}
use Rattle.records.specs.Records.{row_of, opened_rows}
use Rattle.records.specs.Laws.{Same}

-- records that stay have the rows that they had
pub same_row : (before after : List ℕ) (len k : ℕ) → Same before after len k → row_of after len k ≡ row_of before len k
same_row before after len k same = grind (arith, common_steps)

pub same_rows : (before after : List ℕ) (len n : ℕ) → ((k : ℕ) → k < n → Same before after len k) → opened_rows after len n ≡ opened_rows before len n
unfolding opened_rows
same_rows before after len zero same = refl
same_rows before after len (suc n) same =
    ap₂ ◌++◌ (same_rows before after len n (λ k h. same k (omega arith))) (same_row before after len n (same n (omega arith)))

-- a party that has not opened gives no row, and one that has gives its bits
pub row_none : (seals : List ℕ) (len k : ℕ) → has_opened seals len k ≡ false → row_of seals len k ≡ []
row_none seals len k e = grind (arith, common_steps)

pub row_one : (seals x : List ℕ) (len k : ℕ) → has_opened seals len k ≡ true → opening_in seals len k ≡ x → row_of seals len k ≡ drop 32 x ∷ []
row_one seals x len k e o = grind (arith, common_steps)
