-- A list by the structs that hold it. Assumes nothing.
use Rattle.std.specs.Prelude.{ℕ, List}
use Rattle.entries.specs.declared.Names.{Names}
use Rattle.entries.specs.declared.NameList.{NameList}
use Rattle.entries.specs.Rows.{listed}
use Rattle.entries.specs.Entry.{Entered, entered}

-- the names of a list, in order
abbrev pub names_listed : Names → List (List ℕ)
names_listed names = listed names.slots.now names.index.now names.count

-- an entry into a list
abbrev pub entered_list : NameList → List ℕ → Entered
entered_list list x = entered list.slots.now list.index.now list.count x
