-- Network connection parameters: a number of 16 bits in a small open, of 32 bits in a large one.
use Rattle.std.specs.Prelude.{ℕ, zero, suc, ◌/◌, ◌%◌, ◌^◌, Bool, true, false, List, eqb}
use Rattle.base_cells.specs.Numbers.{le}
use Rattle.wire_rules.specs.declared.NetType.{NetType}
use Rattle.wire_rules.specs.declared.NetType.TheVariants.{Null, Multicast, PointToPoint, Reserved}
use Rattle.wire_rules.specs.declared.NetParams.{NetParams}

-- 5.14: type: 0 null, 1 multicast, 2 point-to-point, 3 reserved
abbrev pub net_of : ℕ → NetType
net_of zero = Null
net_of (suc zero) = Multicast
net_of (suc (suc zero)) = PointToPoint
net_of (suc (suc (suc n))) = Reserved

-- 5.12: small: size is the low 9 bits, variable is bit 9, type is bits 13 and 14
abbrev pub small_params : ℕ → NetParams
small_params v = record { size = v % 2 ^ 9; variable = eqb (v / 2 ^ 9 % 2) 1; net = net_of (v / 2 ^ 13 % 4) }

-- 5.13: large: size is the low 16 bits, variable is bit 25, type is bits 29 and 30
abbrev pub large_params : ℕ → NetParams
large_params v = record { size = v % 2 ^ 16; variable = eqb (v / 2 ^ 25 % 2) 1; net = net_of (v / 2 ^ 29 % 4) }

-- the parameters that stand at a place of an open
unfoldable pub params_at : Bool → List ℕ → ℕ → NetParams
params_at true s at = large_params (le 4 s at)
params_at false s at = small_params (le 2 s at)
