-- What passed the tests of a seal or of an opening: the facts, and what is in memory then. Assumes nothing.
use Rattle.std.proofs.Common.{◌≡◌, ℕ, ◌+◌, ◌*◌, ◌<◌, ◌≤◌, Bool, true, false, cond, List, [], ◌∷◌, ◌++◌, length, Ok, Err, Result, sym, refl, ap, ◌∙◌, arith}
use lib.Seq.{paste}
use Rattle.std.proofs.lemmas.Slice.Eq.{bytes_eq-Decides}
use Rattle.std.proofs.lemmas.Bool.{not-false, or_parts, eqb-true, eqb-false, leb-false, ltb-false}
use Rattle.refusals.specs.declared.Refusal.{Refusal}
use Rattle.seals.specs.Seal.{seal_of}
use Rattle.seals.specs.Records.{record_size, seal_in, has_opened}
use Rattle.seals.specs.Steps.{most_parties, seal_fault, sealed_at, sealed, opening_fault, opened_at, opened}

-- a test that refuses, before an answer
pub test_passed : {A E : Type 0} (b : Bool) (why : E) (rest : Result A E) (a : A) → cond b (Err why) rest ≡ Ok a → (b ≡ false) × (rest ≡ Ok a)
test_passed true why rest a e = grind arith
test_passed false why rest a e = (refl, e)

sealed_where : (seals x : List ℕ) (parties n : ℕ) (fault : Result ℕ Refusal) → (sealed_at seals parties x fault).answer ≡ Ok n → ((at : ℕ) × (fault ≡ Ok at)) × (n ≡ parties + 1)
sealed_where seals x parties n (Ok at) e = ((at, refl), cc)
sealed_where seals x parties n (Err why) e = grind arith

pub record SealFacts (seals x : List ℕ) (len parties n : ℕ) : Type 0 where
  pub next : n ≡ parties + 1
  pub few : parties ≡ most_parties → ⊥
  pub long : length x ≡ 32
  pub room : record_size len * (parties + 1) ≤ length seals
  pub after : (sealed seals len parties x).seals ≡ paste seals (record_size len * parties) (x ++ 0 ∷ []) 33

pub seal_passed : (seals x : List ℕ) (len parties n : ℕ) → (sealed seals len parties x).answer ≡ Ok n → SealFacts seals x len parties n
seal_passed seals x len parties n e =
    let w = sealed_where seals x parties n (seal_fault seals len parties x) e in
    let a = test_passed _ _ _ _ w.0.1 in
    let b = test_passed _ _ _ _ a.1 in
    let c = test_passed _ _ _ _ b.1 in
    let f : seal_fault seals len parties x ≡ Ok (record_size len * parties) = w.0.1 ∙ sym c.1 in
    record {
      next = w.1;
      few = eqb-false _ _ b.0;
      long = eqb-true _ _ (not-false _ a.0);
      room = ltb-false _ _ c.0;
      after = ap (λ (z : Result ℕ Refusal). (sealed_at seals parties x z).seals) f;
    }

opened_where : (seals x : List ℕ) (fault : Result ℕ Refusal) → (opened_at seals x fault).answer ≡ Ok tt → (at : ℕ) × (fault ≡ Ok at)
opened_where seals x (Ok at) e = (at, refl)
opened_where seals x (Err why) e = grind arith

pub record OpeningFacts (seals context x : List ℕ) (len parties party : ℕ) : Type 0 where
  pub exists : party < parties
  pub first : has_opened seals len party ≡ false
  pub long : length x ≡ 32 + len
  pub gives : seal_of context party x ≡ seal_in seals len party
  pub room : record_size len * party + 33 + length x ≤ length seals
  pub after : (opened seals len parties context party x).seals ≡ paste seals (record_size len * party + 32) (1 ∷ x) (1 + length x)

pub opening_passed : (seals context x : List ℕ) (len parties party : ℕ) → (opened seals len parties context party x).answer ≡ Ok tt
    → OpeningFacts seals context x len parties party
opening_passed seals context x len parties party e =
    let w = opened_where seals x (opening_fault seals len parties context party x) e in
    let a = test_passed _ _ _ _ w.1 in
    let b = test_passed _ _ _ _ a.1 in
    let c = test_passed _ _ _ _ b.1 in
    let d = test_passed _ _ _ _ c.1 in
    let o = or_parts _ _ a.0 in
    let f : opening_fault seals len parties context party x ≡ Ok (record_size len * party + 32) = w.1 ∙ sym d.1 in
    record {
      exists = leb-false _ _ o.0;
      first = o.1;
      long = eqb-true _ _ (not-false _ b.0);
      gives = (bytes_eq-Decides _ _).0 (not-false _ c.0);
      room = ltb-false _ _ d.0;
      after = ap (λ (z : Result ℕ Refusal). (opened_at seals x z).seals) f;
    }
