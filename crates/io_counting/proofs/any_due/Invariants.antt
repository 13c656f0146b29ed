use Rattle.io_counting.specs.AnyDue.{DueSoFar}
use Rattle.io_counting.proofs.any_due.Given as goal

abbrev pub invariant-loop-i : goal.invariant-loop-i
invariant-loop-i l = DueSoFar l.time l.n l.r l.m l.i
