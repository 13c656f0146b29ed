use Rattle.std.proofs.Common.{arith}
use Rattle.base_cells.specs.Numbers.{le_2}
use Rattle.base_cells.proofs.u16_at.Goals as goal

pub returns : goal.returns
returns c = rw le_2 (omega arith)
