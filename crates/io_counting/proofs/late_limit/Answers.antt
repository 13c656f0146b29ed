use Rattle.base_cells.specs.Numbers.{le}
use Rattle.io_counting.specs.CountLaws.{limit_none, limit_some}
use Rattle.io_counting.proofs.late_limit.Goals as goal

pub returns-then-n-eq0 : goal.returns-then-n-eq0
returns-then-n-eq0 c = limit_none c.u32_at-n.result (le 4 c.args.s.now 36) c.u32_at-n.ensures c.if-n-eq0.true

pub returns : goal.returns
returns c = limit_some c.u32_at-n.result (le 4 c.args.s.now 36) c.u32_at-n.ensures c.if-n-eq0.false
