-- Every accepted protocol is made by a file of steps. Assumes nothing.
use Rattle.std.specs.Prelude.{◌≡◌, ℕ, List, Option}
use Rattle.protocol.specs.Check.{verdict, accepted}
use Rattle.protocol.specs.Draws.{Bytes}
use Rattle.runs.specs.Reports.{Finished, report_of}

-- MADE BY STEPS: for every protocol that is accepted there is a file of bytes whose run ends and writes exactly it
abbrev pub MadeBySteps : Type 0
MadeBySteps =
    (bytes : List ℕ) (names parties opened : ℕ) (order : Option (List ℕ)) → Bytes bytes → verdict bytes ≡ accepted names parties opened order →
    (file : List ℕ) × Bytes file × ((report_of file).ending ≡ Finished) × ((report_of file).protocol ≡ bytes)
