-- The number that tells in a record what happened to an assembly: 12.9.
use Rattle.std.specs.Prelude.{ℕ}
use Rattle.state_events.specs.declared.AssemblyChange.{AssemblyChange}
use Rattle.state_events.specs.declared.AssemblyChange.TheVariants.{Configured, OutputChanged}

abbrev pub change_number : AssemblyChange → ℕ
change_number Configured = 4
change_number OutputChanged = 5
