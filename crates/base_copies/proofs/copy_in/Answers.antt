use Rattle.std.proofs.Common.{arith}
use Rattle.base_cells.specs.Numbers.{part_sets}
use Rattle.base_copies.proofs.copy_in.Goals as goal

pub returns : goal.returns
returns c = let a = c.args in
    part_sets a.s.now _ a.d.now a.at _ c.copy_from_slice.ensures.after (omega arith) (omega arith)
