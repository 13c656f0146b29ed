use Rattle.std.proofs.Common.{arith}
use Rattle.base_cells.specs.Numbers.{le_4}
use Rattle.base_cells.proofs.u32_at.Goals as goal

pub returns : goal.returns
returns c = rw le_4 (omega arith)
