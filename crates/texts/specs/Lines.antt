-- The lines that the programs print, as bytes. Assumes nothing.
use Rattle.std.specs.Prelude.{ℕ, List, ◌++◌, Some, None, codes, decimal, Option}
use Rattle.std.specs.List.{flat_map}
use Rattle.refusals.specs.declared.Refusal.{Refusal}
use Rattle.refusals.specs.Numbered.{number, place}

-- step 7 refused 8 at 2
abbrev pub refusal_line : ℕ → Refusal → List ℕ
refusal_line step why = codes "step " ++ (decimal step ++ (codes " refused " ++ (decimal (number why) ++ (codes " at " ++ (decimal (place why) ++ codes "\n")))))

-- party 3 left out
abbrev pub left_out_line : ℕ → List ℕ
left_out_line party = codes "party " ++ (decimal party ++ codes " left out\n")

-- numbers, each after a space
abbrev pub numbers : List ℕ → List ℕ
numbers xs = flat_map (λ (x : ℕ). codes " " ++ decimal x) xs

abbrev pub order_words : Option (List ℕ) → List ℕ
order_words (Some xs) = numbers xs
order_words None = codes " none"

-- names 3 parties 2 opened 2, and the word before the order
abbrev pub count_words : ℕ → ℕ → ℕ → List ℕ
count_words names parties opened =
    codes "names " ++ (decimal names ++ (codes " parties " ++ (decimal parties ++ (codes " opened " ++ (decimal opened ++ codes "\norder")))))

-- the two lines that end a draw: names 3 parties 2 opened 2, and order 1 2 0 or order none
abbrev pub summary_lines : ℕ → ℕ → ℕ → Option (List ℕ) → List ℕ
summary_lines names parties opened order = count_words names parties opened ++ (order_words order ++ codes "\n")
