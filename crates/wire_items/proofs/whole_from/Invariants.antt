use Rattle.std.proofs.Common.{◌≡◌}
use Rattle.wire_rules.specs.Items.{items_from, whole_of}
use Rattle.wire_items.proofs.whole_from.Given as goal

abbrev pub invariant-loop-next : goal.invariant-loop-next
invariant-loop-next l = whole_of (items_from l.left l.s l.at) ≡ whole_of (items_from l.count l.s l.from)

abbrev pub decreases-loop-next : goal.decreases-loop-next
decreases-loop-next l = l.left
