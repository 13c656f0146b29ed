-- The numbers of an open, worked out. Each wrong reading that must-fail holds of them breaks one of these.
use mathlib.Core.Path.{◌≡◌, refl}
use mathlib.Core.Bool.{true, false}
use mathlib.Core.List.{[], ◌∷◌, map}
use Rattle.wire_rules.specs.Timeout.{factors, factor_of, timeout_of}
use Rattle.wire_rules.specs.Group.{host_of, group_of_host, group_of}
use Rattle.wire_rules.specs.Transport.{transport_class, direction_bit, transport_ok, compatible_bit, major_of}

-- the table is the factors of the multipliers 0 to 7, and no more
pub eight_factors : map factor_of (0 ∷ 1 ∷ 2 ∷ 3 ∷ 4 ∷ 5 ∷ 6 ∷ 7 ∷ []) ≡ factors
eight_factors = refl

-- RPI 10,000 at the multipliers 0 to 8, and 200
pub timeouts : map (timeout_of 10000) (0 ∷ 1 ∷ 2 ∷ 3 ∷ 4 ∷ 5 ∷ 6 ∷ 7 ∷ 8 ∷ 200 ∷ [])
    ≡ 40000 ∷ 80000 ∷ 160000 ∷ 320000 ∷ 640000 ∷ 1280000 ∷ 2560000 ∷ 5120000 ∷ 5120000 ∷ 5120000 ∷ []
timeouts = refl

-- hosts 0 (239.192.128.224), 1 (239.192.1.0), 2 (239.192.1.32), 1,024 and 1,025: after 1,024 hosts the addresses come again
pub groups : map group_of_host (0 ∷ 1 ∷ 2 ∷ 1024 ∷ 1025 ∷ []) ≡ 0xEFC080E0 ∷ 0xEFC00100 ∷ 0xEFC00120 ∷ 0xEFC080E0 ∷ 0xEFC00100 ∷ []
groups = refl

-- 0.0.0.38 in a network of 255.255.255.224 is host 6
pub hosts : (host_of 38 0xFFFFFFE0 ≡ 6) × (group_of 38 0xFFFFFFE0 ≡ 0xEFC001A0)
hosts = (refl, refl)

-- class 1 cyclic, change of state and application triggered; classes 0, 2, 3 and 9; class 1 of a server
pub transports : map transport_ok (0x01 ∷ 0x11 ∷ 0x21 ∷ 0x00 ∷ 0x02 ∷ 0x03 ∷ 0x09 ∷ 0x81 ∷ []) ≡ true ∷ true ∷ true ∷ false ∷ false ∷ false ∷ false ∷ false ∷ []
transports = refl

pub transport_bits : (map transport_class (0x0F ∷ 0xF3 ∷ []) ≡ 15 ∷ 3 ∷ []) × (map direction_bit (0x7F ∷ 0x80 ∷ []) ≡ 0 ∷ 1 ∷ [])
transport_bits = (refl, refl)

-- major 2 as it is, or compatible
pub major_bits : (map compatible_bit (0x02 ∷ 0x7F ∷ 0x82 ∷ []) ≡ false ∷ false ∷ true ∷ []) × (map major_of (0x02 ∷ 0x7F ∷ 0x82 ∷ []) ≡ 2 ∷ 127 ∷ 2 ∷ [])
major_bits = (refl, refl)
