use Rattle.std.proofs.Common.{◌-◌, length}
use Rattle.wire_requests.proofs.RequestLaws.{Held}
use Rattle.wire_requests.proofs.attribute.Given as goal

abbrev pub invariant-loop-seg : goal.invariant-loop-seg
invariant-loop-seg l = Held l.path l.at l.held

abbrev pub decreases-loop-seg : goal.decreases-loop-seg
decreases-loop-seg l = length l.path - l.at
