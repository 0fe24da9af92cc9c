-- When a pass finds nothing. Assumes nothing.
use Rattle.std.proofs.Common.{◌≡◌, ℕ, zero, suc, ◌+◌, ◌<◌, ◌≤◌, Bool, true, false, cond, List, length, get_or, Some, None, Option, refl, ap, ⊎_elim, arith}
use Rattle.std.specs.Option.{option_map}
use Rattle.std.specs.Ordering.{is_lt}
use Rattle.std.proofs.lemmas.Bool.Decides.{nat_tests}
use Rattle.std.proofs.lemmas.Bool.{cases_lt}
use Rattle.refusals.specs.declared.Refusal.{Refusal}
use Rattle.refusals.specs.declared.Refusal.TheVariants.{ProtocolLength, OutOfRange}
use Rattle.entries.specs.Rows.{row_order}
use Rattle.protocol.specs.Check.{or_else, first_of, shape_fault, name_before, name_fault, opened_fault, range_fault, hash_of, wrong_opening, party_fault, opened_count, seal_fault, told, early_fault}
use Rattle.protocol.specs.Layout.{name_count, name_at, name_of, bits_length, party_count, party_at, party_of, size}

pub map_none : (f : ℕ → Refusal) (a : Option ℕ) → option_map f a ≡ None → a ≡ None
map_none f None e = refl
map_none f (Some x) e = cc

or_none : (a b : Option ℕ) → or_else a b ≡ None → (a ≡ None) × (b ≡ None)
or_none None b e = (refl, e)
or_none (Some x) b e = cc

told_none : (f : ℕ → Refusal) (a : Option ℕ) (b : Option Refusal) → told f a b ≡ None → (a ≡ None) × (b ≡ None)
told_none f None b e = (refl, e)
told_none f (Some x) b e = cc

-- none of several finds anything
pub first_all : (f : ℕ → Option ℕ) (n : ℕ) → ((k : ℕ) → k < n → f k ≡ None) → first_of f n ≡ None
unfolding first_of
first_all f zero h = refl
first_all f (suc n) h = rw (first_all f n (λ k l. h k (omega arith))) (h n (omega arith))

pub first_each : (f : ℕ → Option ℕ) (n k : ℕ) → first_of f n ≡ None → k < n → f k ≡ None
unfolding first_of
first_each f zero k e l = absurd (omega arith)
first_each f (suc n) k e l =
    let p = or_none (first_of f n) (f n) e in
    ⊎_elim (λ (h : k < n). first_each f n k p.0 h) (λ (h : n ≤ k). rw (let z : k ≡ n = omega arith in z) p.1) (cases_lt k n)

module _ (B : List ℕ) where
  pub shape_passes : size B ≡ length B → shape_fault B ≡ None
  shape_passes e = grind (arith, nat_tests)

  pub shape_passed : shape_fault B ≡ None → size B ≡ length B
  shape_passed e = grind (arith, nat_tests)

  -- a name in range
  pub record Fit (k : ℕ) : Type 0 where
    pub least : 1 ≤ get_or B (name_at B k) 0
    pub most : get_or B (name_at B k) 0 ≤ 64
    pub above : is_lt (row_order (name_before B k) (name_of B k)) ≡ true

  name_passes : (k : ℕ) → Fit k → name_fault B k ≡ None
  name_passes k f = grind (arith, nat_tests)

  name_passed : (k : ℕ) → name_fault B k ≡ None → Fit k
  name_passed k e = record { least = grind (arith, nat_tests); most = grind (arith, nat_tests); above = grind (arith, nat_tests) }

  opened_passes : (k : ℕ) → get_or B (party_at B k + 32) 0 ≤ 1 → opened_fault B k ≡ None
  opened_passes k h = grind (arith, nat_tests)

  opened_passed : (k : ℕ) → opened_fault B k ≡ None → get_or B (party_at B k + 32) 0 ≤ 1
  opened_passed k e = grind (arith, nat_tests)

  -- counts, lengths, names and marks in range
  pub record Ranged : Type 0 where
    pub some_names : 1 ≤ name_count B
    pub few_names : name_count B ≤ 2000
    pub each_name : (k : ℕ) → k < name_count B → Fit k
    pub enough_bits : 64 ≤ bits_length B
    pub few_bits : bits_length B ≤ 8192
    pub some_parties : party_count B ≡ 0 → ⊥
    pub each_mark : (k : ℕ) → k < party_count B → get_or B (party_at B k + 32) 0 ≤ 1

  pub range_passes : Ranged → range_fault B ≡ None
  range_passes r =
      let names = first_all (name_fault B) (name_count B) (λ k h. name_passes k (r.each_name k h)) in
      let marks = first_all (opened_fault B) (party_count B) (λ k h. opened_passes k (r.each_mark k h)) in
      rw (names, marks) (grind (arith, nat_tests))

  pub range_passed : range_fault B ≡ None → Ranged
  range_passed e =
      let names : first_of (name_fault B) (name_count B) ≡ None = grind (arith, nat_tests) in
      let marks : first_of (opened_fault B) (party_count B) ≡ None = grind (arith, nat_tests) in
      record {
        some_names = grind (arith, nat_tests);
        few_names = grind (arith, nat_tests);
        each_name = λ k h. name_passed k (first_each (name_fault B) (name_count B) k names h);
        enough_bits = grind (arith, nat_tests);
        few_bits = grind (arith, nat_tests);
        some_parties = λ z. grind (arith, nat_tests);
        each_mark = λ k h. opened_passed k (first_each (opened_fault B) (party_count B) k marks h);
      }

  -- openings that give their seals, and one at least
  pub record Sealed : Type 0 where
    pub each_opening : (k : ℕ) → k < party_count B → wrong_opening (hash_of B) k (party_of B k) ≡ false
    pub some_opened : opened_count B ≡ 0 → ⊥

  pub seal_passes : Sealed → seal_fault B ≡ None
  seal_passes s =
      let each = first_all (party_fault (hash_of B) B) (party_count B) (λ k h. ap (λ (t : Bool). cond t (Some k) None) (s.each_opening k h)) in
      rw each (grind (arith, nat_tests, s.some_opened))

  pub seal_passed : seal_fault B ≡ None → Sealed
  seal_passed e =
      let each : first_of (party_fault (hash_of B) B) (party_count B) ≡ None = grind (arith, nat_tests) in
      let none : (k : ℕ) → k < party_count B → party_fault (hash_of B) B k ≡ None = λ k h. first_each (party_fault (hash_of B) B) (party_count B) k each h in
      record { each_opening = λ k h. let n = none k h in grind (arith, nat_tests); some_opened = λ z. grind (arith, nat_tests) }

  pub early_passes : shape_fault B ≡ None → range_fault B ≡ None → seal_fault B ≡ None → None ≡ early_fault B
  early_passes s r o = rw (s, r, o) refl

  pub early_passed : early_fault B ≡ None → (shape_fault B ≡ None) × (range_fault B ≡ None) × (seal_fault B ≡ None)
  early_passed e =
      let a = told_none (λ at. ProtocolLength at) (shape_fault B) _ e in
      let b = told_none (λ at. OutOfRange at) (range_fault B) _ a.1 in
      (a.0, b.0, b.1)
