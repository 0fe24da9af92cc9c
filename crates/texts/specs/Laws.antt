-- What is printed of an order tells the order. Assumes nothing.
use Rattle.std.specs.Prelude.{◌≡◌, ℕ, ◌^◌, ◌<◌, List, Some, None, Option}
use Rattle.std.specs.List.{AllByRecursion}
use Rattle.texts.specs.Lines.{order_words, summary_lines}

-- each number has at most 64 bits, as every number of a program has: the library writes no more digits than 64
abbrev pub Fitting : Option (List ℕ) → Type 0
Fitting (Some xs) = AllByRecursion (λ x. x < 2 ^ 64) xs
Fitting None = Unit {0}

-- orders that print alike are the same, and no order prints as the word for none does
abbrev pub OrderTold : Type 0
OrderTold = (a b : Option (List ℕ)) → Fitting a → Fitting b → order_words a ≡ order_words b → a ≡ b

-- and so in the lines that end a draw, for the same counts
abbrev pub SummaryTold : Type 0
SummaryTold = (n P O : ℕ) (a b : Option (List ℕ)) → Fitting a → Fitting b → summary_lines n P O a ≡ summary_lines n P O b → a ≡ b
