-- Tests that a step has passed. Assumes nothing.
use Rattle.std.proofs.Common.{◌≡◌, Bool, true, false, cond, Ok, Err, Result, refl}

-- where a test that refuses came before an answer, it did not refuse
pub passed : {A E : Type 0} (b : Bool) (why : E) (r : Result A E) (a : A) → cond b (Err why) r ≡ Ok a → (b ≡ false) × (r ≡ Ok a)
passed true why r a e = absurd cc
passed false why r a e = (refl, e)

pub ok_is : {A E : Type 0} (a b : A) → ◌≡◌ {A = Result A E} (Ok a) (Ok b) → a ≡ b
ok_is a b e = cc
