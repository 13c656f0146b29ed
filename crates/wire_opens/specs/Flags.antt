-- The parameters by their size and by the number that has their flags: what small and large ones have in common. No public contract cites it.
use Rattle.std.specs.Prelude.{ℕ, ◌/◌, ◌%◌, ◌^◌, eqb}
use Rattle.wire_rules.specs.Params.{net_of}
use Rattle.wire_rules.specs.declared.NetParams.{NetParams}

abbrev pub params_of : ℕ → ℕ → NetParams
params_of size flags = record { size = size; variable = eqb (flags / 2 ^ 9 % 2) 1; net = net_of (flags / 2 ^ 13 % 4) }
