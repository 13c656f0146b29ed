use Rattle.std.proofs.Common.{arith}
use Rattle.base_cells.specs.Numbers.{le_8}
use Rattle.base_cells.proofs.u64_at.Goals as goal

pub returns : goal.returns
returns c = rw le_8 (omega arith)
