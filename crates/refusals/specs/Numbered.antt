-- The number and the place of each refusal, as they are printed. Assumes nothing.
use Rattle.std.specs.Prelude.{ℕ, List, ◌++◌, codes, decimal}
use Rattle.refusals.specs.declared.Missing.{Missing}
use Rattle.refusals.specs.declared.Missing.TheVariants.{Entry, Seal, Opening}
use Rattle.refusals.specs.declared.Lent.{Lent}
use Rattle.refusals.specs.declared.Lent.TheVariants.{List as TheList, Seals, Bits, Order}
use Rattle.refusals.specs.declared.Refusal.{Refusal}
use Rattle.refusals.specs.declared.Refusal.TheVariants.{NameLength, NameTaken, WrongTime, BitsLength, SealLength, TooManySeals, NoSuchParty, OpeningLength, WrongOpening, Nothing, NoRoom, ProtocolLength, OutOfRange, BadOpening, NoneOpened, WrongOrder}

-- what is missing, and which of the lent slices is too short
abbrev pub missing_number : Missing → ℕ
missing_number Entry = 0
missing_number Seal = 1
missing_number Opening = 2

abbrev pub lent_number : Lent → ℕ
lent_number TheList = 0
lent_number Seals = 1
lent_number Bits = 2
lent_number Order = 3

abbrev pub number : Refusal → ℕ
number (NameLength n) = 1
number NameTaken = 2
number WrongTime = 3
number BitsLength = 4
number (SealLength n) = 5
number TooManySeals = 5
number (NoSuchParty p) = 6
number (OpeningLength n) = 7
number (WrongOpening p) = 8
number (Nothing what) = 9
number (NoRoom what) = 10
number (ProtocolLength at) = 11
number (OutOfRange at) = 12
number (BadOpening p) = 13
number NoneOpened = 13
number (WrongOrder at) = 14

abbrev pub place : Refusal → ℕ
place (NameLength n) = n
place NameTaken = 0
place WrongTime = 0
place BitsLength = 0
place (SealLength n) = n
place TooManySeals = 255
place (NoSuchParty p) = p
place (OpeningLength n) = n
place (WrongOpening p) = p
place (Nothing what) = missing_number what
place (NoRoom what) = lent_number what
place (ProtocolLength at) = at
place (OutOfRange at) = at
place (BadOpening p) = p
place NoneOpened = 255
place (WrongOrder at) = at

-- refused 8 at 2
abbrev pub refused_words : Refusal → List ℕ
refused_words why = codes "refused " ++ (decimal (number why) ++ (codes " at " ++ decimal (place why)))
