-- The verdict by what the passes found. Assumes nothing.
use Rattle.std.proofs.Common.{◌≡◌, ℕ, List, Some, None, Ok, Err, Option, refl, ap, ◌∙◌}
use Rattle.std.specs.Option.{option_map}
use Rattle.refusals.specs.declared.Refusal.{Refusal}
use Rattle.refusals.specs.declared.Refusal.TheVariants.{WrongOrder}
use Rattle.protocol.specs.Check.{accepted, refused, early_fault, drawing_of, order_fault, opened_count, refused_for, judged, judged_order, verdict}
use Rattle.protocol.specs.Layout.{name_count, party_count}
use Rattle.protocol.specs.Protocol.{ordered}

-- a refused pass found the fault that it tells, and a passed one none
pub fault_refused : (why : Refusal) (o : Option Refusal) → Err why ≡ refused_for o → Some why ≡ o
fault_refused why None e = cc
fault_refused why (Some x) e = cc

pub fault_passed : (o : Option Refusal) → Ok tt ≡ refused_for o → None ≡ o
fault_passed None e = refl
fault_passed (Some x) e = cc

module _ (bytes : List ℕ) where
  pub verdict_early : (why : Refusal) → Some why ≡ early_fault bytes → refused why ≡ verdict bytes
  unfolding verdict
  verdict_early why e = ap (λ (o : Option Refusal). judged o (judged_order bytes (ordered (drawing_of bytes)))) e

  module _ (early : None ≡ early_fault bytes) (order : Option (List ℕ)) (drawn : order ≡ ordered (drawing_of bytes)) where
    pub verdict_late : (o : Option Refusal) → o ≡ option_map (λ at. WrongOrder at) (order_fault bytes order)
        → judged o (accepted (name_count bytes) (party_count bytes) (opened_count bytes) order) ≡ verdict bytes
    unfolding verdict
    verdict_late o e =
        ap (λ (z : Option Refusal). judged z (accepted (name_count bytes) (party_count bytes) (opened_count bytes) order)) e
        ∙ (ap (judged_order bytes) drawn ∙ ap (λ (z : Option Refusal). judged z (judged_order bytes (ordered (drawing_of bytes)))) early)

    pub verdict_accepted : (n p k : ℕ) → None ≡ option_map (λ at. WrongOrder at) (order_fault bytes order) → n ≡ name_count bytes → p ≡ party_count bytes → k ≡ opened_count bytes
        → accepted n p k order ≡ verdict bytes
    verdict_accepted n p k e f g h =
        ap (λ (z : ℕ). accepted z p k order) f
        ∙ (ap (λ (z : ℕ). accepted (name_count bytes) z k order) g ∙ (ap (λ (z : ℕ). accepted (name_count bytes) (party_count bytes) z order) h ∙ verdict_late None e))
