-- Seals, and the closing of the seals, keep the state sound. Assumes nothing.
use Rattle.std.proofs.Common.{◌≡◌, ℕ, ◌*◌, ◌<◌, ◌≤◌, true, eqb, List, None, Ok, Err, Result, sym, ap, ◌∙◌, subst, ⊎_elim, arith}
use Rattle.std.proofs.lemmas.Bool.{cases_lt, both_ways, eqb-false}
use Rattle.refusals.specs.Answers.{done, number_or}
use Rattle.refusals.specs.declared.Missing.TheVariants.{Seal}
use Rattle.refusals.specs.declared.Refusal.{Refusal}
use Rattle.refusals.specs.declared.Refusal.TheVariants.{Nothing}
use Rattle.seals.specs.Seal.{seal_of}
use Rattle.seals.specs.Records.{record_size, seal_in, has_opened, opening_in}
use Rattle.seals.specs.Steps.{sealed}
use Rattle.records.specs.Laws.{Same}
use Rattle.records.proofs.Kept.{seal_taken}
use Rattle.records.proofs.Summed.{seal_unsummed}
use Rattle.sum.specs.Sums.{sum_of}
use Rattle.ceremony.specs.Model.{Sealed}
use Rattle.ceremony.specs.Steps.{with_seals, seals_close}
use Rattle.ceremony.specs.Draws.{why}
use Rattle.laws.specs.Sound.{InSealing, InOpening}
use Rattle.laws.proofs.Answers.{passed, ok_is}

-- what is known of an opening stays with a record that stays
pub still_given : (before after hash : List ℕ) (len k : ℕ) → Same before after len k
    → (has_opened before len k ≡ true → seal_of hash k (opening_in before len k) ≡ seal_in before len k)
    → has_opened after len k ≡ true → seal_of hash k (opening_in after len k) ≡ seal_in after len k
still_given before after hash len k s g h =
    ap (seal_of hash k) s.opening ∙ (g (sym s.mark ∙ h) ∙ sym s.seal)

module _ (s : Sealed) (x : List ℕ) (i : InSealing s) where
  -- the state with one more seal
  after_seal : (n : ℕ) → (sealed s.held.seals s.list.length s.parties x).answer ≡ Ok n
      → InSealing (record { held = with_seals s.held (sealed s.held.seals s.list.length s.parties x).seals s.held.bits; list = s.list; parties = n })
  after_seal n e =
      let c = i.closed in
      let len : ℕ = s.list.length in
      let seals : List ℕ = s.held.seals in
      let p = seal_taken seals x len s.parties n e in
      let k = p.1 in
      record {
        closed =
            record {
              names = c.names;
              some_names = c.some_names;
              few_names = c.few_names;
              hash = c.hash;
              enough_bits = c.enough_bits;
              few_bits = c.few_bits;
              bits_room = c.bits_room;
              order_room = c.order_room;
              few_parties = omega (arith, p.0, k.few c.few_parties);
              records_room = let r = k.room in let q = ap (λ (m : ℕ). record_size len * m) p.0 in omega (arith, q, r, k.size);
              given =
                  λ j l h.
                  ⊎_elim (λ (b : j < s.parties). still_given seals _ s.list.hash len j (k.others j b) (c.given j b) h)
                  (λ (b : s.parties ≤ j).
                  let z : j ≡ s.parties = omega (arith, p.0) in
                  absurd (both_ways _ (ap (has_opened (sealed seals len s.parties x).seals len) z ∙ k.unopened) h))
                  (cases_lt j s.parties);
              sum = c.sum ∙ ap (sum_of len) (sym (seal_unsummed seals x len s.parties n e));
            };
        unopened =
            λ j l.
            ⊎_elim (λ (b : j < s.parties). (k.others j b).mark ∙ i.unopened j b)
            (λ (b : s.parties ≤ j). let z : j ≡ s.parties = omega (arith, p.0) in ap (has_opened (sealed seals len s.parties x).seals len) z ∙ k.unopened)
            (cases_lt j s.parties);
      }

  pub seal_sound : (r : Result ℕ Refusal) → (sealed s.held.seals s.list.length s.parties x).answer ≡ r → why (done r) ≡ None
      → InSealing (record { held = with_seals s.held (sealed s.held.seals s.list.length s.parties x).seals s.held.bits; list = s.list; parties = number_or r s.parties })
  seal_sound (Ok n) e h = after_seal n e
  seal_sound (Err w) e h = absurd cc

pub seals_close_sound : (s t : Sealed) → InSealing s → seals_close s ≡ Ok t → InOpening t
seals_close_sound s t i e =
    let a = passed (eqb s.parties 0) (Nothing Seal) (Ok s) t e in
    let same : s ≡ t = ok_is _ _ a.1 in
    subst InOpening same (record { closed = i.closed; some_parties = let n = eqb-false s.parties 0 a.0 in omega (arith, n) })
