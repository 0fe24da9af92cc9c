-- The forms of a line, by the words that they begin with. Assumes nothing.
use Rattle.std.specs.Prelude.{ℕ, Bool, List, [], ◌∷◌, codes, find, Option, nat_eq}
use Rattle.std.specs.List.{starts_with}
use Rattle.notation.specs.declared.forms.Form.{Form}
use Rattle.notation.specs.declared.forms.Form.TheVariants.{Entry, EntryHex, CloseList, Seal, CloseSeals, Opening, Close, StepHex}

abbrev pub words : Form → List ℕ
words Entry = codes "entry "
words EntryHex = codes "entry-hex "
words CloseList = codes "close list "
words Seal = codes "seal "
words CloseSeals = codes "close seals"
words Opening = codes "opening "
words Close = codes "close"
words StepHex = codes "step-hex "

-- those of a close come before `close` alone
abbrev pub forms : List Form
forms = Entry ∷ EntryHex ∷ CloseList ∷ Seal ∷ CloseSeals ∷ Opening ∷ Close ∷ StepHex ∷ []

abbrev pub begins : List ℕ → List ℕ → Bool
begins word line = starts_with nat_eq line word

-- the form of a line: the first whose words it begins with
abbrev pub form_of : List ℕ → Option Form
form_of line = find (λ f. begins (words f) line) forms
