-- The group address that a device sends its multicast streams to. Addresses are numbers of 32 bits.
use Rattle.std.specs.Prelude.{ℕ, ◌+◌, ◌*◌, ◌-◌, ◌%◌, ◌^◌}
use Rattle.std.specs.Int.Bits.{bit_and}

-- 5.18: the host part of the local address: its bits where the mask has none
abbrev pub host_of : ℕ → ℕ → ℕ
host_of local mask = bit_and local (2 ^ 32 - 1 - mask)

-- 5.19: host part minus one, wrapping, low 10 bits, times 32, added to 239.192.1.0
abbrev pub group_of_host : ℕ → ℕ
group_of_host host = 0xEFC00100 + (host + (2 ^ 32 - 1)) % 2 ^ 32 % 2 ^ 10 * 32

abbrev pub group_of : ℕ → ℕ → ℕ
group_of local mask = group_of_host (host_of local mask)
