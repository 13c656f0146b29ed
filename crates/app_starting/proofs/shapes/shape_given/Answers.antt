use Rattle.std.proofs.Common.{arith, rules}
use Rattle.app_starting.specs.Shapes.{kind_low, kind_high}
use Rattle.app_starting.proofs.ShapeLaws.{no_instance, shape_rest}
use Rattle.app_starting.proofs.shapes.shape_given.Goals as goal

pub returns-then-k-lt1 : goal.returns-then-k-lt1
returns-then-k-lt1 c = let a = c.args in let e = c.u8_at-k.ensures in kind_low a.r.now a.i (omega arith)

pub returns-then-k-gt3 : goal.returns-then-k-gt3
returns-then-k-gt3 c = let a = c.args in let e = c.u8_at-k.ensures in kind_high a.r.now a.i (omega arith) (omega arith)

pub returns-then-n-lt1 : goal.returns-then-n-lt1
returns-then-n-lt1 c = let a = c.args in let e = c.u8_at-k.ensures in no_instance a.r.now a.i (omega arith) (omega arith) _ c.instance_at-n.ensures c.if-n-lt1.true

pub returns : goal.returns
returns c = let a = c.args in let e = c.u8_at-k.ensures in
    shape_rest a.r.now a.i (omega arith) (omega arith) c.instance_at-n.result _ c.instance_at-n.ensures c.size_at.ensures c.if-n-lt1.false (search rules)
