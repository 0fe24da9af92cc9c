-- What is left of an answer. Assumes nothing.
use Rattle.std.specs.Prelude.{ℕ, Ok, Err, Result}
use Rattle.refusals.specs.declared.Refusal.{Refusal}

-- the number that is answered, or the old one after a refusal
abbrev pub number_or : Result ℕ Refusal → ℕ → ℕ
number_or (Ok n) old = n
number_or (Err why) old = old

-- that it is done, or why it is refused
abbrev pub done : Result ℕ Refusal → Result (Unit {0}) Refusal
done (Ok n) = Ok tt
done (Err why) = Err why
