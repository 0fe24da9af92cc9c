-- The seals of a script are all taken. Assumes nothing.
use Rattle.std.proofs.Common.{◌≡◌, ℕ, zero, suc, ◌+◌, ◌*◌, ◌<◌, ◌≤◌, List, [], map, length, get_or, drop, None, Ok, Result, sym, refl, ap, ◌∙◌, subst, ⊎_elim, mul-le-mul_left, arith}
use Rattle.std.proofs.lemmas.List.{drop_more, drop_all}
use Rattle.std.proofs.lemmas.Bool.{eq-eqb, ne_eqb, le-ltb, cases_lt}
use Rattle.refusals.specs.Answers.{done, number_or}
use Rattle.refusals.specs.declared.Refusal.{Refusal}
use Rattle.seals.specs.Records.{record_size, seal_in}
use Rattle.seals.specs.Steps.{seal_fault, sealed_at, sealed}
use Rattle.records.proofs.Kept.{seal_taken}
use Rattle.ceremony.specs.Model.{Sealed}
use Rattle.ceremony.specs.Steps.{seal_step}
use Rattle.ceremony.specs.Draws.{sealing, step, why}
use Rattle.laws.specs.Sound.{InSealing}
use Rattle.laws.proofs.Runs.{step_sound}
use Rattle.scripts.specs.Script.{seal_step_of}
use Rattle.scripts.proofs.Chains.{Leads, SameList}

seal_ok : (seals x : List ℕ) (len parties : ℕ) → length x ≡ 32 → (parties ≡ 255 → ⊥) → record_size len * (parties + 1) ≤ length seals
    → (sealed seals len parties x).answer ≡ Ok (parties + 1)
seal_ok seals x len parties l n r =
    let f : seal_fault seals len parties x ≡ Ok (record_size len * parties) = simp (eq-eqb _ _ l, ne_eqb _ _ n, le-ltb _ _ r) in
    ap (λ (z : Result ℕ Refusal). (sealed_at seals parties x z).answer) f

-- the first k parties of a script have sealed
pub record SoFar (xs : List (List ℕ)) (k : ℕ) (s : Sealed) : Type 0 where
  pub sound : InSealing s
  pub parties : s.parties ≡ k
  pub room : record_size s.list.length * 255 ≤ length s.held.seals
  pub seals : (j : ℕ) → j < k → seal_in s.held.seals s.list.length j ≡ get_or xs j []

module _ (xs : List (List ℕ)) (few : length xs ≤ 255) (each : (k : ℕ) → k < length xs → length (get_or xs k []) ≡ 32) where
  -- one seal more
  next_seal : (k : ℕ) (s : Sealed) → k < length xs → SoFar xs k s → ((step (sealing s) 3 (get_or xs k [])).1 ≡ None) × SoFar xs (k + 1) (seal_step s (get_or xs k [])).0
  next_seal k s l i =
      let x : List ℕ = get_or xs k [] in
      let len : ℕ = s.list.length in
      let seals : List ℕ = s.held.seals in
      let p = i.parties in
      let m : record_size len * (s.parties + 1) ≤ record_size len * 255 = mul-le-mul_left (record_size len) (omega (arith, p, l, few)) in
      let ok = seal_ok seals x len s.parties (each k l) (λ e. omega (arith, p, e, l, few)) (omega (arith, m, i.room)) in
      let kept = (seal_taken seals x len s.parties (s.parties + 1) ok).1 in (
        ap (λ (r : Result ℕ Refusal). why (done r)) ok,
        record {
          sound = step_sound (sealing s) 3 x i.sound;
          parties = ap (λ (r : Result ℕ Refusal). number_or r s.parties) ok ∙ ap (λ (n : ℕ). n + 1) p;
          room = omega (arith, kept.size, i.room);
          seals =
              λ j h.
              ⊎_elim (λ (b : j < k). (kept.others j (omega (arith, p, b))).seal ∙ i.seals j b)
              (λ (b : k ≤ j).
              let z : j ≡ k = omega arith in
              ap (seal_in (sealed seals len s.parties x).seals len) (z ∙ sym p) ∙ (kept.seal ∙ ap (λ (n : ℕ). get_or xs n []) (sym z)))
              (cases_lt j k);
        },
      )

  abbrev pub AllSealed : ℕ → Sealed → Type 0
  AllSealed k s = (t : Sealed) × Leads (sealing s) (map seal_step_of (drop k xs)) (sealing t) × SoFar xs (length xs) t × SameList t s

  pub seals_lead : (m k : ℕ) (s : Sealed) → k + m ≡ length xs → SoFar xs k s → AllSealed k s
  seals_lead zero k s e i =
      let z : k ≡ length xs = omega arith in
      (s, subst (λ (ys : List (List ℕ)). Leads (sealing s) (map seal_step_of ys) (sealing s)) (sym (drop_all k xs (omega arith))) refl, subst (λ (n : ℕ). SoFar xs n s) z i, (refl, refl, refl))
  seals_lead (suc m) k s e i =
      let l : k < length xs = omega arith in
      let n = next_seal k s l i in
      let r = seals_lead m (k + 1) (seal_step s (get_or xs k [])).0 (omega arith) n.1 in
      (r.0, subst (λ (ys : List (List ℕ)). Leads (sealing s) (map seal_step_of ys) (sealing r.0)) (sym (drop_more xs k [] l)) (n.0, r.1), r.2, r.3)
