use Rattle.std.proofs.Common.{◌∙◌, arith}
use Rattle.state_rules.specs.Cut.{cut_is}
use Rattle.state_inplace.proofs.cut_row.Goals as goal

pub returns : goal.returns
returns c = let a = c.args in
    c.zero.ensures ∙ cut_is a.r.now c.move_down.new.s a.n a.i (omega arith) (omega arith) (omega arith) c.move_down.ensures
