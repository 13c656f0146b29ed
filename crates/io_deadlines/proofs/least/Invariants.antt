use Rattle.std.proofs.Common.{◌≡◌, drop}
use Rattle.rules.specs.Removal.{least_of}
use Rattle.state_rules.specs.Rows.{conns_in}
use Rattle.io_deadlines.proofs.least.Given as goal

abbrev pub invariant-loop-i : goal.invariant-loop-i
invariant-loop-i l = least_of l.m (drop l.i (conns_in l.n l.r)) ≡ least_of l.initial.m (drop 1 (conns_in l.n l.r))
