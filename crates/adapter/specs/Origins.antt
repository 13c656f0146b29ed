-- Where an open came from, as a host says it in numbers.
use Rattle.std.specs.Prelude.{ℕ, Bool}
use Rattle.std.specs.Bool.{then_some}
use Rattle.rules.specs.declared.Origin.{Origin}

abbrev pub origin_of : ℕ → ℕ → ℕ → Bool → ℕ → ℕ → ℕ → Origin
origin_of peer local mask given address port ioport =
    record { peer = peer; local = local; mask = mask; socket = then_some given (record { address = address; port = port }); ioport = ioport }
