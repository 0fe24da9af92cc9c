-- Places stand one behind another. Assumes nothing.
use Rattle.std.proofs.Common.{◌≡◌, ℕ, zero, suc, ◌+◌, ◌<◌, ◌≤◌, List, ap, ⊎_elim, arith}
use Rattle.std.proofs.lemmas.Bool.{cases_lt}
use Rattle.protocol.specs.Layout.{name_count, name_at, length_at, party_count, party_at, order_at, size}

-- numbers of which none is less than the one before it
rises : (f : ℕ → ℕ) → ((k : ℕ) → f k ≤ f (suc k)) → (k m : ℕ) → k ≤ m → f k ≤ f m
rises f up k zero h = let e = ap f (let z : k ≡ 0 = omega arith in z) in omega arith
rises f up k (suc m) h =
    ⊎_elim (λ (l : k < suc m). let i = rises f up k m (omega arith) in omega (arith, up m)) (λ (l : suc m ≤ k). let e = ap f (let z : k ≡ suc m = omega arith in z) in omega arith) (cases_lt k (suc m))

module _ (B : List ℕ) where
  pub name_first : (k : ℕ) → 2 ≤ name_at B k
  unfolding name_at
  name_first k = rises (name_at B) (λ i. omega arith) 0 k (omega arith)

  pub name_last : (k : ℕ) → k ≤ name_count B → name_at B k ≤ length_at B
  unfolding length_at name_at
  name_last k h = rises (name_at B) (λ i. omega arith) k (name_count B) h

  pub party_last : (k : ℕ) → k ≤ party_count B → party_at B k ≤ order_at B
  unfolding order_at party_at
  party_last k h = rises (party_at B) (λ i. omega arith) k (party_count B) h

  pub middle_last : length_at B + 3 ≤ order_at B
  unfolding party_at
  middle_last = party_last 0 (omega arith)

  pub order_last : order_at B + 1 ≤ size B
  unfolding size
  order_last = omega arith
