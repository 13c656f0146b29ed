use Rattle.base_cells.specs.Numbers.{le_1}
use Rattle.base_cells.proofs.u8_at.Goals as goal

pub returns : goal.returns
returns c = rw le_1
