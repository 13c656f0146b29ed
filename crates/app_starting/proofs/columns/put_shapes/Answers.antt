-- After i turns the first i assemblies stand in the columns.
use Rattle.std.proofs.Common.{ℕ, refl, ap, ◌∙◌, arith, length}
use Rattle.app_starting.specs.Block.{spread}
use Rattle.app_starting.specs.Columns.{length_one, spread_none, spread_more}
use Rattle.app_starting.proofs.columns.put_shapes.Goals as goal

pub loop-i-init : goal.loop-i-init
loop-i-init c = let a = c.args in (spread_none a.block.now a.s.now, refl)

pub loop-i-preserved : goal.loop-i-preserved
loop-i-preserved c = let a = c.args in
    let w = c.loop-i in
    let e = c.put_shape.ensures in (
      e ∙ spread_more a.block.now w.i a.s.now w.s w.invariant.0,
      ap length e ∙ length_one a.block.now w.i w.s ∙ w.invariant.1,
    )

pub shape_of-s : goal.shape_of-s
shape_of-s c = c.loop-i.invariant.1

pub returns : goal.returns
returns c = let w = c.loop-i in
    let a = c.args in
    w.invariant.0 ∙ ap (λ (k : ℕ). spread a.block.now k a.s.now) (omega arith)
