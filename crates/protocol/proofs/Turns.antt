-- A walk over the names, or over the parties: which comes next, and what is found. Assumes nothing.
use Rattle.std.proofs.Common.{◌≡◌, ℕ, ◌+◌, ◌-◌, ◌<◌, List, map, length, Some, None, Ok, Err, Option, ap, ◌∙◌, arith}
use Rattle.std.specs.Iterator.{Yields, YieldsFirstBy}
use Rattle.std.specs.List.{range_with_len}
use Rattle.std.proofs.lemmas.Iterator.Consumers.{YieldsList-from_first, YieldsList-turn, YieldsList-end}
use Rattle.std.proofs.lemmas.List.FromFn.{length-map-range_with_len, get_or-map-range_with_len}
use Rattle.refusals.specs.declared.Refusal.{Refusal}
use Rattle.protocol.specs.Check.{first_of, refused_with}
use Rattle.protocol.specs.Walk.{numbers_between}
use Rattle.protocol.proofs.Firsts.{refused_first, passed_on}

module _ (bytes : List ℕ) (n : ℕ) where
  abbrev at : ℕ → List ℕ × ℕ
  at k = (bytes, k)

  pub turns : length (numbers_between bytes 0 n) ≡ n
  turns = let e : length (map at (range_with_len 0 (n - 0))) ≡ n - 0 = length-map-range_with_len at 0 (n - 0) in omega (arith, e)

  module _ {S X : Type 0} (numbered : X → List ℕ × ℕ) (left : S → List (List ℕ × ℕ)) (s : S) (all : left s ≡ numbers_between bytes 0 n) (seen : List X) (t : S) (so_far : Yields (YieldsFirstBy numbered left) s seen t)
      (r : Option X) (u : S) (step : YieldsFirstBy numbered left t r u) where
    pub turn_is : (p : X) → r ≡ Some p → (length seen < n) × (numbered p ≡ (bytes, length seen))
    turn_is p e =
        let h = YieldsList-turn (YieldsList-from_first numbered left _ all) seen t so_far r u p e step in
        let k = length seen in
        (omega (arith, h.0, turns), h.1 ∙ get_or-map-range_with_len at 0 (n - 0) k k (numbered p) (omega (arith, h.0, turns)) (omega arith))

    pub turns_end : r ≡ None → length seen ≡ n
    turns_end e = (YieldsList-end (YieldsList-from_first numbered left _ all) seen t so_far r u e step).1 ∙ turns

  -- the first fault of one, as the refusal that is answered
  module _ (fault : List ℕ → ℕ → Option ℕ) (why : ℕ → Refusal) (k : ℕ) (p : List ℕ × ℕ) (turn : (k < n) × (p ≡ (bytes, k))) (none : first_of (fault bytes) k ≡ None) where
    here : refused_with why (fault p.0 p.1) ≡ refused_with why (fault bytes k)
    here = ap (λ (q : List ℕ × ℕ). refused_with why (fault q.0 q.1)) turn.1

    pub turn_refused : (e : Refusal) → Err e ≡ refused_with why (fault p.0 p.1) → Err e ≡ refused_with why (first_of (fault bytes) n)
    turn_refused e h = refused_first (fault bytes) why k n e turn.0 none (h ∙ here)

    pub turn_passed : Ok tt ≡ refused_with why (fault p.0 p.1) → first_of (fault bytes) (k + 1) ≡ None
    turn_passed h = passed_on (fault bytes) why k none (h ∙ here)
