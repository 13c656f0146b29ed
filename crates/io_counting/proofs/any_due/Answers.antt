-- The least so far tells of the rows before i, the rest of the others.
use Rattle.std.proofs.Common.{arith}
use Rattle.io_counting.specs.AnyDue.{none_yet, one_more, by_least}
use Rattle.io_counting.proofs.any_due.Goals as goal

pub loop-i-init : goal.loop-i-init
loop-i-init c = let a = c.args in none_yet a.time a.n a.r.now 18446744073709551615 (omega arith)

pub loop-i-preserved : goal.loop-i-preserved
loop-i-preserved c = let w = c.loop-i in
    let a = c.args in
    one_more a.time a.n a.r.now w.m _ w.i _ (omega arith) c.due_number_at.ensures (omega arith) (omega arith) c.min-m.ensures w.invariant

pub returns : goal.returns
returns c = let w = c.loop-i in
    let a = c.args in
    by_least a.time a.n a.r.now w.m w.i (omega arith) w.invariant
