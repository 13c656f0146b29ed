use Rattle.std.proofs.Common.{ap, ◌∙◌, arith, reverse}
use Rattle.base_cells.specs.Numbers.{le_bytes_of_2, part_sets}
use Rattle.base_cells.specs.BigEndian.{put_be, bytes_be, length_bytes_be}
use Rattle.base_cells.proofs.put_be16.Goals as goal

pub returns : goal.returns
unfolding put_be bytes_be
returns c = let a = c.args in
    let n = length_bytes_be 2 a.v in
    part_sets a.s.now _ (bytes_be 2 a.v) a.at _ (c.copy_from_slice.ensures.after ∙ c.to_be_bytes.ensures ∙ ap reverse (le_bytes_of_2 a.v (omega arith))) (omega arith) (omega arith)
