use Rattle.std.proofs.Common.{refl, sym, ◌∙◌, drop}
use Rattle.app_starting.specs.Block.{shapes_at}
use Rattle.state_image.specs.TestLaws.{walk_stops, walk_on, walk_ends}
use Rattle.app_starting.specs.Shapes.{shape_given}
use Rattle.app_starting.proofs.shapes.shapes_given.Goals as goal

pub loop-i-init : goal.loop-i-init
loop-i-init c = refl

pub returns-then-not-shape_given : goal.returns-then-not-shape_given
returns-then-not-shape_given c = let a = c.args in let w = c.loop-i in
    sym (w.invariant ∙ walk_stops 5 shape_given a.n (drop shapes_at a.r.now) w.i c.loop-i-test.true (sym c.shape_given.ensures ∙ c.if-not-shape_given.true))

pub loop-i-preserved : goal.loop-i-preserved
loop-i-preserved c = let a = c.args in let w = c.loop-i in
    w.invariant ∙ walk_on 5 shape_given a.n (drop shapes_at a.r.now) w.i c.loop-i-test.true (sym c.shape_given.ensures ∙ c.if-not-shape_given.false)

pub returns : goal.returns
returns c = let a = c.args in let w = c.loop-i in sym (w.invariant ∙ walk_ends 5 shape_given a.n (drop shapes_at a.r.now) w.i c.loop-i-test.false)
