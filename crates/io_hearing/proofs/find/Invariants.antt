use Rattle.std.proofs.Common.{◌≤◌, ◌-◌, ◌≡◌}
use Rattle.rules.specs.Lists.{place}
use Rattle.state_rules.specs.Rows.{conns_in}
use Rattle.io_hearing.specs.Decisions.{hears, place_from}
use Rattle.io_hearing.proofs.find.Given as goal

abbrev pub invariant-loop-i : goal.invariant-loop-i
invariant-loop-i l = (l.i ≤ l.n) × (place (hears l.id l.from) (conns_in l.n l.r) ≡ place_from l.id l.from l.n l.r l.i)

abbrev pub decreases-loop-i : goal.decreases-loop-i
decreases-loop-i l = l.n - l.i
