-- What a line means. Assumes nothing.
use Rattle.std.specs.Prelude.{ℕ, cond, ◌||◌, ◌&&◌, List, [], ◌∷◌, length, drop, codes, Some, None, Option, Ok, Err, Result, ◌==◌, nat_lt}
use Rattle.std.specs.List.{before_first, after_first}
use Rattle.notation.specs.declared.faults.Fault.{Fault}
use Rattle.notation.specs.declared.faults.Fault.TheVariants.{NoForm, NoName, NoDigits, NoSeal, NoList, NoParty, NoOpening, NoKind}
use Rattle.notation.specs.declared.forms.Form.{Form}
use Rattle.notation.specs.declared.forms.Form.TheVariants.{Entry, EntryHex, CloseList, Seal, CloseSeals, Opening, Close, StepHex}
use Rattle.notation.specs.declared.parsed.Parsed.{Parsed}
use Rattle.notation.specs.declared.parsed.Parsed.TheVariants.{Nothing, Step, File}
use Rattle.notation.specs.declared.step.Told.{Told}
use Rattle.notation.specs.Forms.{words, begins, form_of}
use Rattle.notation.specs.Hex.{are_pairs, all_digits, bytes_of}
use Rattle.notation.specs.Lines.{is_blank}
use Rattle.notation.specs.Numbers.{number, two_bytes}
use Rattle.notation.specs.Steps.{step_told}

-- nothing; a step by its kind and its bytes; an opening of a party with the path of the file that has its bytes; no line
-- of this notation
pub data Meaning : Type 0 where
  nothing : Meaning
  step : ℕ → List ℕ → Meaning
  file : ℕ → List ℕ → Meaning
  bad : Fault → Meaning

-- what a line was found to be, as its meaning
abbrev pub meant : Result Parsed Fault → Meaning
meant (Ok Nothing) = nothing
meant (Ok (Step told)) = step told.kind (step_told told)
meant (Ok (File party path)) = file party path.now
meant (Err why) = bad why

abbrev pub told : Result Told Fault → Meaning
told (Ok t) = step t.kind (step_told t)
told (Err why) = bad why

-- the digits of a step of a kind
abbrev pub hex_step : ℕ → List ℕ → Meaning
hex_step kind ds = cond (are_pairs ds) (step kind (bytes_of ds)) (bad NoDigits)

-- entry NAME
abbrev pub entry : List ℕ → Meaning
entry name = cond (length name == 0) (bad NoName) (step 1 name)

-- entry-hex HEX
abbrev pub entry_hex : List ℕ → Meaning
entry_hex ds = cond (length ds == 0) (bad NoName) (hex_step 1 ds)

-- close list L
abbrev pub close_list : Option ℕ → Meaning
close_list None = bad NoList
close_list (Some n) = step 2 (two_bytes n)

-- seal HEX
abbrev pub seal : List ℕ → Meaning
seal ds = cond (length ds == 64 && all_digits ds) (step 3 (bytes_of ds)) (bad NoSeal)

-- a line of words alone has nothing behind them
abbrev pub alone : ℕ → List ℕ → Meaning
alone kind rest = cond (length rest == 0) (step kind []) (bad NoForm)

-- the bytes of an opening: digits, or else the path of a file
abbrev pub opened : ℕ → List ℕ → Meaning
opened party word = cond (all_digits word) (cond (are_pairs word) (step 5 (party ∷ bytes_of word)) (bad NoDigits)) (file party word)

-- opening P HEX
abbrev pub opening : Option ℕ → List ℕ → Meaning
opening None word = bad NoParty
opening (Some party) word = cond (nat_lt party 256) (cond (length word == 0) (bad NoOpening) (opened party word)) (bad NoParty)

abbrev pub with_kind : List ℕ → Meaning
with_kind [] = bad NoKind
with_kind (kind ∷ x) = step kind x

-- step-hex HEX
abbrev pub any_step : List ℕ → Meaning
any_step ds = cond (are_pairs ds) (with_kind (bytes_of ds)) (bad NoDigits)

-- what stands behind the words of a form
abbrev pub rest_read : Form → List ℕ → Meaning
rest_read Entry rest = entry rest
rest_read EntryHex rest = entry_hex rest
rest_read CloseList rest = close_list (number rest)
rest_read Seal rest = seal rest
rest_read CloseSeals rest = alone 4 rest
rest_read Opening rest = opening (number (before_first (λ b. b == 32) rest)) (after_first (λ b. b == 32) rest)
rest_read Close rest = alone 6 rest
rest_read StepHex rest = any_step rest

abbrev pub form_read : Option Form → List ℕ → Meaning
form_read None line = bad NoForm
form_read (Some form) line = rest_read form (drop (length (words form)) line)

-- blank lines and those that begin with # mean nothing
abbrev pub meaning : List ℕ → Meaning
meaning line = cond (is_blank line || begins (codes "#") line) nothing (form_read (form_of line) line)
