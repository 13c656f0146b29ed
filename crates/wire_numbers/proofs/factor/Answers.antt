-- `factor` reads the code's table at the capped multiplier: its entries are those of the definition's list.
use Rattle.std.proofs.Common.{arith}
use Rattle.wire_numbers.specs.NumberLaws.{factor_at, factor_shift, factor_most}
use Rattle.wire_numbers.proofs.factor.Goals as goal

pub returns : goal.returns
returns c = grind (arith, factor_at, factor_shift, factor_most)
