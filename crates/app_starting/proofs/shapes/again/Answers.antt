use Rattle.std.proofs.Common.{refl, sym, ◌∙◌}
use Rattle.app_starting.specs.Shapes.{again_here, again_on, again_ends}
use Rattle.app_starting.proofs.shapes.again.Goals as goal

pub loop-i-init : goal.loop-i-init
loop-i-init c = refl

pub returns-then-x-instance_at : goal.returns-then-x-instance_at
returns-then-x-instance_at c = let a = c.args in let w = c.loop-i in let e = c.instance_at.ensures in
    sym (w.invariant ∙ again_here a.n a.r.now a.x w.i c.loop-i-test.true (c.if-x-instance_at.true ∙ e))

pub loop-i-preserved : goal.loop-i-preserved
loop-i-preserved c = let a = c.args in let w = c.loop-i in let e = c.instance_at.ensures in
    w.invariant ∙ again_on a.n a.r.now a.x w.i c.loop-i-test.true (λ q. c.if-x-instance_at.false (q ∙ sym e))

pub returns : goal.returns
returns c = let a = c.args in let w = c.loop-i in sym (w.invariant ∙ again_ends a.n a.r.now a.x w.i c.loop-i-test.false)
