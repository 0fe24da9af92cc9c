-- A seal and an opening by the struct that holds the records. Assumes nothing.
use Rattle.std.specs.Prelude.{ℕ, List}
use Rattle.seals.specs.declared.Parties.{Parties}
use Rattle.seals.specs.Steps.{Sealed, Opened, sealed, opened}

abbrev pub sealed_in : Parties → List ℕ → Sealed
sealed_in parties x = sealed parties.records.now parties.length parties.count x

abbrev pub opened_in : Parties → List ℕ → ℕ → List ℕ → Opened
opened_in parties context party x = opened parties.records.now parties.length parties.count context party x
