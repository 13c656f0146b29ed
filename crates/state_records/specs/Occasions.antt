-- The number that tells in a record why the host is told of a connection: 12.8 to 12.10, and 12.12 for the list.
use Rattle.std.specs.Prelude.{ℕ}
use Rattle.state_records.specs.declared.Occasion.{Occasion}
use Rattle.state_records.specs.declared.Occasion.TheVariants.{Listed, Opened, Closed, TimedOut}

abbrev pub occasion_number : Occasion → ℕ
occasion_number Listed = 0
occasion_number Opened = 1
occasion_number Closed = 2
occasion_number TimedOut = 3
