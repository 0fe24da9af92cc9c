-- Openings keep the state sound: the bits stay the sum of the openings. Assumes nothing.
use Rattle.std.proofs.Common.{◌≡◌, ℕ, zero, suc, List, [], ◌∷◌, take, drop, None, Ok, Err, Result, sym, refl, ap, ◌∙◌, ⊎_elim, arith}
use lib.Bits.{bit_xor}
use Rattle.std.proofs.lemmas.Bool.{cases_eq}
use Rattle.refusals.specs.declared.Refusal.{Refusal}
use Rattle.seals.specs.Seal.{seal_of}
use Rattle.seals.specs.Records.{seal_in, opening_in}
use Rattle.seals.specs.Steps.{opened}
use Rattle.records.proofs.Kept.{opening_taken}
use Rattle.records.proofs.Summed.{opening_summed}
use Rattle.sum.specs.Sums.{xor_bytes}
use Rattle.sum.proofs.Sums.{length_xor}
use Rattle.ceremony.specs.Model.{Sealed}
use Rattle.ceremony.specs.Steps.{with_seals, sum_after}
use Rattle.ceremony.specs.Draws.{why}
use Rattle.laws.specs.Sound.{InOpening}
use Rattle.laws.proofs.Sealings.{still_given}

-- a row added to bytes is added to each front of them
pub take_xor : (n : ℕ) (a b : List ℕ) → take n (xor_bytes a b) ≡ xor_bytes (take n a) b
unfolding xor_bytes
take_xor zero [] b = refl
take_xor zero (x ∷ a) b = refl
take_xor (suc n) [] b = refl
take_xor (suc n) (x ∷ a) [] = refl
take_xor (suc n) (x ∷ a) (y ∷ b) = ap (λ (z : List ℕ). bit_xor x y ∷ z) (take_xor n a b)

module _ (s : Sealed) (party : ℕ) (x : List ℕ) (i : InOpening s) where
  after_opening : (opened s.held.seals s.list.length s.parties s.list.hash party x).answer ≡ Ok tt
      → InOpening (record { held = with_seals s.held (opened s.held.seals s.list.length s.parties s.list.hash party x).seals (xor_bytes s.held.bits (drop 32 x)); list = s.list; parties = s.parties })
  after_opening e =
      let c = i.closed in
      let len : ℕ = s.list.length in
      let hash : List ℕ = s.list.hash in
      let seals : List ℕ = s.held.seals in
      let k = opening_taken seals hash x len s.parties party e in
      record {
        closed =
            record {
              names = c.names;
              some_names = c.some_names;
              few_names = c.few_names;
              hash = c.hash;
              enough_bits = c.enough_bits;
              few_bits = c.few_bits;
              bits_room = let l = length_xor s.held.bits (drop 32 x) in omega (arith, l, c.bits_room);
              order_room = c.order_room;
              few_parties = c.few_parties;
              records_room = omega (arith, c.records_room, k.size);
              given =
                  λ j l h.
                  ⊎_elim (λ (b : j ≡ party).
                  ap (λ (m : ℕ). seal_of hash m (opening_in (opened seals len s.parties hash party x).seals len m)) b
                  ∙ (ap (seal_of hash party) k.opening ∙ (k.gives ∙ (sym k.seal ∙ ap (seal_in (opened seals len s.parties hash party x).seals len) (sym b)))))
                  (λ (b : j ≡ party → ⊥). still_given seals _ hash len j (k.others j b) (c.given j l) h)
                  (cases_eq j party);
              sum = take_xor len s.held.bits (drop 32 x) ∙ (ap (λ (z : List ℕ). xor_bytes z (drop 32 x)) c.sum ∙ sym (opening_summed seals hash x len s.parties party e));
            };
        some_parties = i.some_parties;
      }

  pub opening_sound : (r : Result (Unit {0}) Refusal) → (opened s.held.seals s.list.length s.parties s.list.hash party x).answer ≡ r → why r ≡ None
      → InOpening (record { held = with_seals s.held (opened s.held.seals s.list.length s.parties s.list.hash party x).seals (sum_after r s.held.bits (drop 32 x)); list = s.list; parties = s.parties })
  opening_sound (Ok u) e h = after_opening e
  opening_sound (Err w) e h = absurd cc
