-- The list of a script closes. Assumes nothing.
use Rattle.std.proofs.Common.{◌≡◌, ℕ, ◌<◌, ◌≤◌, ltb, length, None, Ok, Result, ap, arith}
use Rattle.std.proofs.lemmas.Bool.{ne_eqb, le-ltb, or_from}
use Rattle.refusals.specs.declared.Refusal.{Refusal}
use Rattle.ceremony.specs.Model.{Listed}
use Rattle.ceremony.specs.Steps.{two_bytes, length_given, shortest, longest}
use Rattle.ceremony.specs.Draws.{State, closed}
use Rattle.protocol.specs.Protocol.{word}

-- a length in two bytes is read again
two_again : (n : ℕ) → two_bytes (word n) ≡ n
two_again n = omega arith

pub given : (s : Listed) (n : ℕ) → shortest ≤ n → n ≤ longest → 0 < s.count → n ≤ length s.held.bits → s.count ≤ length s.held.order → length_given s (word n) ≡ Ok n
given s n a b c d f =
    let e = two_again n in
    let t = or_from (ltb (two_bytes (word n)) shortest) (ltb longest (two_bytes (word n))) (le-ltb _ _ (omega (arith, e))) (le-ltb _ _ (omega (arith, e))) in
    let u = ne_eqb s.count 0 (λ z. omega arith) in
    let v = le-ltb (length s.held.bits) (two_bytes (word n)) (omega (arith, e)) in
    let w = le-ltb (length s.held.order) s.count f in
    simp (t, u, v, w) (ap Ok e)

-- a closing that answers with the next state
pub passes : {T : Type 0} (s : State) (next : T → State) (r : Result T Refusal) (t : T) → r ≡ Ok t → ((closed s next r).0 ≡ next t) × ((closed s next r).1 ≡ None)
passes s next r t e = (ap (λ (q : Result _ Refusal). (closed s next q).0) e, ap (λ (q : Result _ Refusal). (closed s next q).1) e)
