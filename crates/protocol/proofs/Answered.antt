-- What is promised of an answered verdict. Assumes nothing.
use Rattle.std.proofs.Common.{◌≡◌, ℕ, List, IfSome, Some, Option, sym, subst}
use Rattle.protocol.specs.Check.{Verdict, verdict}
use Rattle.protocol.specs.Draws.{Bytes, AcceptsDrawn, AcceptsOnlyDrawn}
use Rattle.protocol.proofs.AcceptsDrawn.{accepts_drawn}
use Rattle.protocol.proofs.AcceptsOnlyDrawn.{accepts_only_drawn}

pub record Promised (bytes : List ℕ) (o : Option Verdict) : Type 0 where
  pub is : IfSome o (λ v. v ≡ verdict bytes)
  pub drawn : IfSome o (AcceptsDrawn bytes)
  pub only : IfSome o (AcceptsOnlyDrawn bytes)

pub promised : (bytes : List ℕ) (o : Option Verdict) (v : Verdict) → Bytes bytes → o ≡ Some v → v ≡ verdict bytes → Promised bytes o
promised bytes o v byte e h =
    subst (Promised bytes) (sym e) (record { is = h; drawn = accepts_drawn bytes v h; only = accepts_only_drawn bytes v byte h })
