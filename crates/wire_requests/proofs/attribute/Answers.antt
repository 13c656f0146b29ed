use Rattle.std.proofs.Common.{sym, ◌∙◌}
use Rattle.wire_requests.proofs.RequestLaws.{held_all, held_broken}
use Rattle.wire_requests.proofs.attribute.Goals as goal

pub returns-in-End : goal.returns-in-End
returns-in-End c = held_all _ _ _ c.loop-seg.invariant (sym c.in-End.is ∙ c.next_segment.ensures)

pub returns-in-Broken : goal.returns-in-Broken
returns-in-Broken c = held_broken _ _ _ c.loop-seg.invariant _ (sym c.in-Broken.is ∙ c.next_segment.ensures)
