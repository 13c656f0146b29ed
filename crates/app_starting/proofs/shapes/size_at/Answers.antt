use Rattle.std.proofs.Common.{arith, sym, ◌∙◌}
use Rattle.app_starting.specs.Block.{dec_shape}
use Rattle.app_starting.specs.Shapes.{shape_number}
use Rattle.app_starting.proofs.shapes.size_at.Goals as goal

pub returns : goal.returns
unfolding dec_shape
returns c = let a = c.args in c.u16_at.ensures ∙ sym (shape_number 2 2 a.r.now a.i (omega arith))
