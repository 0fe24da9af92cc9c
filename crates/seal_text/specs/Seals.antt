-- What a party is told that asks for its seal. Assumes nothing.
use Rattle.std.specs.Prelude.{ℕ, ◌+◌, cond, List, ◌++◌, length, Some, None, Ok, Err, codes, decimal, Option, Result, ◌==◌, nat_lt}
use Rattle.output.specs.Hex.{hex}
use Rattle.seals.specs.Seal.{seal_of}
use Rattle.seals.specs.Steps.{most_parties}
use Rattle.ceremony.specs.declared.memory.ClosedList.{ClosedList}
use Rattle.seal_text.specs.declared.NoSeal.{NoSeal}
use Rattle.seal_text.specs.declared.NoSeal.TheVariants.{NoSuchParty, ListOpen, OpeningLength}

-- parties are numbered from 0; the list has to be closed, since its hash is sealed too; then the opening has to be 32 bytes and the bits long
abbrev pub seal_of_length : ℕ → List ℕ → List ℕ → Result (List ℕ) NoSeal
seal_of_length wanted seal opening = cond (length opening == wanted) (Ok seal) (Err (OpeningLength wanted (length opening)))

abbrev pub seal_for_list : ℕ → List ℕ → Option ClosedList → Result (List ℕ) NoSeal
seal_for_list party opening None = Err ListOpen
seal_for_list party opening (Some list) = seal_of_length (32 + list.length) (seal_of list.hash party opening) opening

abbrev pub seal_for : ℕ → List ℕ → Option ClosedList → Result (List ℕ) NoSeal
seal_for party opening list = cond (nat_lt party most_parties) (seal_for_list party opening list) (Err NoSuchParty)

-- the party's number, its seal, and what to do with the opening
abbrev pub seal_lines : ℕ → List ℕ → List ℕ
seal_lines party seal =
    codes "party " ++ (decimal party ++ (codes "\nseal " ++ (hex seal ++ codes "\nKeep your opening secret until the seals are closed, and hand it in then.\n")))

-- why there is no seal
abbrev pub no_seal_line : NoSeal → List ℕ
no_seal_line NoSuchParty = codes "a party has a number from 0 to 254\n"
no_seal_line ListOpen = codes "the list is not closed yet\n"
no_seal_line (OpeningLength wanted given) =
    codes "the opening has " ++ (decimal given ++ (codes " bytes, and should have " ++ (decimal wanted ++ codes ": 32, and those that each party puts in\n")))

abbrev pub told : ℕ → Result (List ℕ) NoSeal → List ℕ
told party (Ok seal) = seal_lines party seal
told party (Err why) = no_seal_line why

abbrev pub seal_told : ℕ → List ℕ → Option ClosedList → List ℕ
seal_told party opening list = told party (seal_for party opening list)
