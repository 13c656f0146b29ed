-- The bits of the transport byte and of a key's major revision.
use Rattle.std.specs.Prelude.{ℕ, ◌/◌, ◌%◌, Bool, false, eqb}
use Rattle.base_cells.specs.Pick.{pick}

-- 5.15: the transport class: the low four bits
abbrev pub transport_class : ℕ → ℕ
transport_class t = t % 16

-- the direction: bit 7
abbrev pub direction_bit : ℕ → ℕ
direction_bit t = t / 128 % 2

-- 6.1: class 1, bit 7 clear
abbrev pub transport_ok : ℕ → Bool
transport_ok t = pick (eqb (transport_class t) 1) (eqb (direction_bit t) 0) false

-- 5.16: the compatibility bit of a key's major revision: bit 7
abbrev pub compatible_bit : ℕ → Bool
compatible_bit m = eqb (m / 128 % 2) 1

-- a key's major revision without bit 7
abbrev pub major_of : ℕ → ℕ
major_of m = m % 128
