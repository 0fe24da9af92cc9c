-- The bits that an accepted protocol's order used. Assumes nothing.
use Rattle.std.proofs.Common.{◌≡◌, ℕ, List, Some, None, Option, refl, arith}
use Rattle.refusals.specs.declared.Refusal.{Refusal}
use Rattle.order.specs.Drawings.{Drawing}
use Rattle.protocol.specs.Check.{Verdict, accepted, early_fault, drawing_of, judged, judged_order, verdict}
use Rattle.protocol.specs.Numbers.{bits_read, bits_used, read_unless}
use Rattle.protocol.specs.Protocol.{ordered}

module _ (names parties opened : ℕ) (order : Option (List ℕ)) where
  -- what is judged accepted has no fault before the order, and so all that was drawn counts
  no_fault : (fault : Option Refusal) (v : Verdict) (d : Drawing) → accepted names parties opened order ≡ judged fault v → read_unless fault d ≡ bits_read d
  no_fault None v d e = refl
  no_fault (Some why) v d e = let z : ◌≡◌ {A = ℕ} 0 1 = cc in absurd (omega arith)

  pub accepted_bits : (bytes : List ℕ) → accepted names parties opened order ≡ verdict bytes → bits_used bytes ≡ bits_read (drawing_of bytes)
  unfolding verdict
  accepted_bits bytes e = no_fault (early_fault bytes) (judged_order bytes (ordered (drawing_of bytes))) (drawing_of bytes) e
