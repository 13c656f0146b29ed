use Rattle.conn_lookup.specs.AnyExpired.{FoundSoFar}
use Rattle.conn_lookup.proofs.any_expired.Given as goal

abbrev pub invariant-loop-i : goal.invariant-loop-i
invariant-loop-i l = FoundSoFar l.time l.n l.r l.found l.i
