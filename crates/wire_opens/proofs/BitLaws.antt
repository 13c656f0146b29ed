-- Masks of low bits as remainders; a shift to the right is a division already. The flags of large parameters are the high half's.
use Rattle.std.proofs.Common.{◌≡◌, ℕ, ◌/◌, ◌%◌}
use Rattle.std.specs.Prelude.{bit_and}
use Rattle.std.proofs.lemmas.Nat.{and_mask}
use Rattle.std.proofs.Math.Nat.{div-div-eq-div-mul}
use Rattle.wire_rules.specs.Params.{large_params}
use Rattle.wire_opens.specs.Flags.{params_of}

pub mask1 : (v : ℕ) → bit_and v 1 ≡ v % 2
mask1 v = and_mask v 1

pub mask2 : (v : ℕ) → bit_and v 3 ≡ v % 4
mask2 v = and_mask v 2

pub mask9 : (v : ℕ) → bit_and v 511 ≡ v % 512
mask9 v = and_mask v 9

pub mask16 : (v : ℕ) → bit_and v 65535 ≡ v % 65536
mask16 v = and_mask v 16

pub high_flags : (v : ℕ) → params_of (v % 65536) (v / 65536) ≡ large_params v
high_flags v = simp div-div-eq-div-mul
