use Rattle.std.proofs.Common.{◌∙◌, arith}
use Rattle.base_cells.specs.Numbers.{put, le_bytes, length_le_bytes, le_bytes_of_8, part_sets}
use Rattle.base_cells.proofs.put_u64.Goals as goal

pub returns : goal.returns
unfolding put
returns c = let a = c.args in
    let n = length_le_bytes 8 a.v in
    part_sets a.s.now _ (le_bytes 8 a.v) a.at _ (c.copy_from_slice.ensures.after ∙ c.to_le_bytes.ensures ∙ le_bytes_of_8 a.v (omega arith)) (omega arith) (omega arith)
