-- A step of no kind that there is. Assumes nothing.
use Rattle.std.proofs.Common.{◌≡◌, ◌≢◌, ℕ, false, eqb, List, sym}
use Rattle.std.proofs.lemmas.Bool.{ne_eqb}
use Rattle.refusals.specs.declared.Refusal.TheVariants.{WrongTime}
use Rattle.step_file.specs.declared.kind.Kind.{Kind}
use Rattle.step_file.specs.declared.kind.Kind.TheVariants.{Entry, CloseList, Seal, CloseSeals, Opening, Close}
use Rattle.step_file.specs.Kinds.{kind_number}
use Rattle.ceremony.specs.Draws.{State, listing, sealing, opening, ended, refused, step}

module _ (number : ℕ) (x : List ℕ) (h : (kind : Kind) → kind_number kind ≢ number) where
  other : (kind : Kind) → eqb number (kind_number kind) ≡ false
  other kind = ne_eqb number (kind_number kind) (λ e. h kind (sym e))

  pub unknown : (s : State) → step s number x ≡ refused s WrongTime
  unknown (listing s) = simp (other Entry, other CloseList)
  unknown (sealing s) = simp (other Entry, other Seal, other CloseSeals)
  unknown (opening s) = simp (other Entry, other Opening, other Close)
  unknown (ended s) = simp (other Entry)
