-- The factors of the timeout as powers of 2, its bounds, and the host part by the length of the network part.
use Rattle.std.specs.Prelude.{◌≡◌, ℕ, zero, suc, ◌-◌, ◌*◌, ◌%◌, ◌^◌, ◌≤◌, min, bit_and, slice_index_or, refl}
use Rattle.std.proofs.Common.{ap, ◌∙◌, arith, mul-le-mul_left, pow_mono, pow_pos}
use Rattle.std.proofs.lemmas.Nat.{and_mask}
use Rattle.wire_rules.specs.Timeout.{factors, factor_of, timeout_of}
use Rattle.wire_rules.specs.Group.{host_of}

-- each entry of the table is 4 times 2 to its multiplier
pub factor_at : (d k : ℕ) → k ≤ 7 → slice_index_or factors k d ≡ 4 * 2 ^ k
factor_at d zero h = refl
factor_at d (suc zero) h = refl
factor_at d (suc (suc zero)) h = refl
factor_at d (suc (suc (suc zero))) h = refl
factor_at d (suc (suc (suc (suc zero)))) h = refl
factor_at d (suc (suc (suc (suc (suc zero))))) h = refl
factor_at d (suc (suc (suc (suc (suc (suc zero)))))) h = refl
factor_at d (suc (suc (suc (suc (suc (suc (suc zero))))))) h = refl
factor_at d (suc (suc (suc (suc (suc (suc (suc (suc k)))))))) h = absurd (omega arith)

-- the table is a shift, for every multiplier
pub factor_shift : (m : ℕ) → factor_of m ≡ 4 * 2 ^ min m 7
factor_shift m = factor_at 512 (min m 7) (omega arith)

-- no factor is above 512
pub factor_most : (m : ℕ) → factor_of m ≤ 512
factor_most m =
    let h : min m 7 ≤ 7 = omega arith in
    omega (arith, factor_shift m, pow_mono h)

pub timeout_most : (rpi m : ℕ) → timeout_of rpi m ≤ rpi * 512
timeout_most rpi m = mul-le-mul_left rpi (factor_most m)

-- where the mask is a run of ones above k zeros, the host part is the low k bits
pub host_low : (local k : ℕ) → k ≤ 32 → host_of local (2 ^ 32 - 2 ^ k) ≡ local % 2 ^ k
host_low local k h =
    let e : 2 ^ 32 - 1 - (2 ^ 32 - 2 ^ k) ≡ 2 ^ k - 1 = omega (arith, pow_mono h, pow_pos k) in
    ap (bit_and local) e ∙ and_mask local k
