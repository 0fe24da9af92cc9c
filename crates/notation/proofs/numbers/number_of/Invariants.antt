use Rattle.std.proofs.Common.{◌≡◌, drop}
use Rattle.notation.specs.Numbers.{number_from}
use Rattle.notation.proofs.numbers.number_of.Given as goal

abbrev pub invariant-loop-digit : goal.invariant-loop-digit
invariant-loop-digit l = number_from l.number (drop l.digit-index l.digits) ≡ number_from 0 l.digits
