-- With which status a program ends. Assumes nothing.
use Rattle.std.specs.Prelude.{ℕ, Ok, Err, Result}
use Rattle.std.specs.Process.{exit_status}
use Rattle.std.specs.declared.process.ExitCode.{ExitCode}

-- the status that it gives, or 1 for an error
abbrev pub status_of : {E : Type 0} → Result ExitCode E → ℕ
status_of (Ok status) = exit_status status
status_of (Err e) = 1
