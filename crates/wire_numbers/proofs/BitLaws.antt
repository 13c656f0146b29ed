-- Masks of low bits as remainders; a shift to the right is a division already.
use Rattle.std.proofs.Common.{◌≡◌, ℕ, ◌%◌}
use lib.Bits.{bit_and, and_mask}

pub mask1 : (v : ℕ) → bit_and v 1 ≡ v % 2
mask1 v = and_mask v 1

pub mask4 : (v : ℕ) → bit_and v 15 ≡ v % 16
mask4 v = and_mask v 4

pub mask7 : (v : ℕ) → bit_and v 127 ≡ v % 128
mask7 v = and_mask v 7

pub mask10 : (v : ℕ) → bit_and v 1023 ≡ v % 1024
mask10 v = and_mask v 10
