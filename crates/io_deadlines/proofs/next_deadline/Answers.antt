use Rattle.io_deadlines.specs.Deadlines.{none_waits, short, answered}
use Rattle.io_deadlines.proofs.next_deadline.Goals as goal

pub returns-then-n-eq0 : goal.returns-then-n-eq0
returns-then-n-eq0 c = none_waits c.args.s.now c.args.out.now c.u16_at-n.result c.u16_at-n.ensures c.if-n-eq0.true

pub returns-then-out-lt8 : goal.returns-then-out-lt8
returns-then-out-lt8 c = short c.args.s.now c.args.out.now c.u16_at-n.result c.u16_at-n.ensures c.if-n-eq0.false c.if-out-lt8.true

pub returns : goal.returns
returns c = answered c.args.s.now c.args.out.now c.u16_at-n.result c.u16_at-n.ensures c.least.result c.least.ensures c.if-out-lt8.false c.put_u64.new.s c.put_u64.ensures
