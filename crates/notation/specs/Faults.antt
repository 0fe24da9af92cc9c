-- What can be wrong with a line, by number and in words. Assumes nothing.
use Rattle.std.specs.Prelude.{ℕ, List, ◌++◌, codes, decimal}
use Rattle.notation.specs.declared.faults.Fault.{Fault}
use Rattle.notation.specs.declared.faults.Fault.TheVariants.{NoForm, NoName, NoDigits, NoSeal, NoList, NoParty, NoOpening, NoKind, LongStep, NoFile, LongFile}
use Rattle.notation.specs.declared.faults.BadLine.{BadLine}

abbrev pub number_of : Fault → ℕ
number_of NoForm = 1
number_of NoName = 2
number_of NoDigits = 3
number_of NoSeal = 4
number_of NoList = 5
number_of NoParty = 6
number_of NoOpening = 7
number_of NoKind = 8
number_of LongStep = 9
number_of NoFile = 10
number_of LongFile = 11

abbrev pub sentence : Fault → List ℕ
sentence NoForm = codes "this is no step"
sentence NoName = codes "an entry has a name"
sentence NoDigits = codes "bytes are pairs of hex digits"
sentence NoSeal = codes "a seal has 64 hex digits"
sentence NoList = codes "a list is closed with a number from 0 to 65535"
sentence NoParty = codes "a party has a number from 0 to 255"
sentence NoOpening = codes "an opening has bytes"
sentence NoKind = codes "a step has a kind"
sentence LongStep = codes "a step has at most 65535 bytes"
sentence NoFile = codes "the file is missing"
sentence LongFile = codes "the file has more than 65534 bytes"

-- line 3: a seal has 64 hex digits
abbrev pub bad_line : BadLine → List ℕ
bad_line bad = codes "line " ++ (decimal bad.line ++ (codes ": " ++ sentence bad.fault))
