use Rattle.std.proofs.Common.{◌≡◌, ◌*◌, ◌≤◌}
use Rattle.state_rules.specs.Places.{connections_of, max_late_of}
use Rattle.io_counting.specs.CountLaws.{TallySoFar}
use Rattle.io_counting.proofs.count_all.Given as goal

abbrev pub invariant-loop-i : goal.invariant-loop-i
invariant-loop-i l = (l.k.need ≤ l.i * 545) × (l.k.count ≤ l.i) × (l.k.late ≤ l.i) × (l.n ≡ connections_of l.s) × (l.n ≤ 32) × TallySoFar l.time l.limit (max_late_of l.s) l.i l.s l.k
