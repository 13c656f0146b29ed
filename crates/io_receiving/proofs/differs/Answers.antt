use Rattle.io_receiving.specs.DecisionLaws.{differs_was, differs_was_not}
use Rattle.io_receiving.proofs.differs.Goals as goal

pub returns-then-was : goal.returns-then-was
returns-then-was c = differs_was c.args.changed c.args.was c.args.run c.if-changed.false c.if-was.true

pub returns : goal.returns
returns c = differs_was_not c.args.changed c.args.was c.args.run c.if-changed.false c.if-was.false
