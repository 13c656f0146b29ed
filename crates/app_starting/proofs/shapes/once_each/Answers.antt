use Rattle.std.proofs.Common.{ℕ, ◌+◌, refl, ap, sym, ◌∙◌, eqb, drop}
use Rattle.rules.specs.Lists.{any}
use Rattle.app_starting.specs.Shapes.{instances_in, once_stops, once_on, once_ends}
use Rattle.app_starting.proofs.shapes.once_each.Goals as goal

pub loop-i-init : goal.loop-i-init
loop-i-init c = refl

pub returns-then-again : goal.returns-then-again
returns-then-again c = let a = c.args in let w = c.loop-i in
    sym (w.invariant ∙ once_stops a.n a.r.now w.i c.loop-i-test.true
    (ap (λ (x : ℕ). any (eqb x) (drop (w.i + 1) (instances_in a.n a.r.now))) (sym c.instance_at.ensures) ∙ sym c.again.ensures ∙ c.if-again.true))

pub loop-i-preserved : goal.loop-i-preserved
loop-i-preserved c = let a = c.args in let w = c.loop-i in
    w.invariant ∙ once_on a.n a.r.now w.i c.loop-i-test.true
    (ap (λ (x : ℕ). any (eqb x) (drop (w.i + 1) (instances_in a.n a.r.now))) (sym c.instance_at.ensures) ∙ sym c.again.ensures ∙ c.if-again.false)

pub returns : goal.returns
returns c = let a = c.args in let w = c.loop-i in sym (w.invariant ∙ once_ends a.n a.r.now w.i c.loop-i-test.false)
