-- One less than the due number, modulo 2^64, is the due time, or the largest number for never.
use Rattle.std.proofs.Common.{arith}
use Rattle.state_rules.specs.Rows.{row_at}
use Rattle.io_deadlines.specs.Deadlines.{row_least}
use Rattle.io_deadlines.proofs.row_deadline.Goals as goal

pub returns : goal.returns
returns c = let a = c.args in
    row_least (row_at a.r.now a.i) _ _ _ c.until_at-until.ensures c.due_number_at-due.ensures c.min.ensures (omega arith) (omega arith)
