use Rattle.std.proofs.Common.{arith}
use borrow.Author.Tests.{not-true, not-false}
use Rattle.io_hearing.specs.DecisionLaws.{newer_first, newer_low, newer_rest}
use Rattle.io_hearing.proofs.is_newer.Goals as goal

pub returns-then-not-h : goal.returns-then-not-h
returns-then-not-h c = newer_first c.args.h c.args.q (not-true c.args.h.any c.if-not-h.true)

pub returns-then-a-ge1 : goal.returns-then-a-ge1
returns-then-a-ge1 c = newer_rest c.args.h c.args.q (not-false c.args.h.any c.if-not-h.false) _ (omega arith) c.if-a-ge1.true

pub returns-else-a-ge1 : goal.returns-else-a-ge1
returns-else-a-ge1 c = newer_low c.args.h c.args.q (not-false c.args.h.any c.if-not-h.false) _ (omega arith) c.if-a-ge1.false
