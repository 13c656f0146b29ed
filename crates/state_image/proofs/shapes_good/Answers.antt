-- The sizes so far and the rest are the whole test.
use Rattle.std.proofs.Common.{arith}
use Rattle.state_image.specs.TestLaws.{run_begins, run_on, run_ends}
use Rattle.state_image.proofs.shapes_good.Goals as goal

pub loop-i-init : goal.loop-i-init
loop-i-init c = run_begins _

pub loop-i-preserved : goal.loop-i-preserved
loop-i-preserved c = let w = c.loop-i in run_on _ w.i _ w.good (omega arith) w.invariant c.size_at.ensures

pub returns : goal.returns
returns c = let w = c.loop-i in run_ends _ w.i w.good (omega arith) w.invariant
