-- The number of each kind of step. Assumes nothing.
use Rattle.std.specs.Prelude.{◌≡◌, ◌≢◌, ℕ, Result, MatchResult}
use Rattle.step_file.specs.declared.kind.Kind.{Kind}
use Rattle.step_file.specs.declared.kind.Kind.TheVariants.{Entry, CloseList, Seal, CloseSeals, Opening, Close}
use Rattle.step_file.specs.declared.kind.UnknownKind.{UnknownKind}

abbrev pub kind_number : Kind → ℕ
kind_number Entry = 1
kind_number CloseList = 2
kind_number Seal = 3
kind_number CloseSeals = 4
kind_number Opening = 5
kind_number Close = 6

-- the kind that has a number, or that number where no kind has it
abbrev pub IsKindOf : ℕ → Result Kind UnknownKind → Type 0
IsKindOf number r = MatchResult r (λ kind. kind_number kind ≡ number) (λ e. (e.0 ≡ number) × ((kind : Kind) → kind_number kind ≢ number))
