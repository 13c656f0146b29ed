use Rattle.std.proofs.Common.{◌≡◌, drop}
use Rattle.rules.specs.Lists.{any}
use Rattle.rules.specs.Checks.{owns}
use Rattle.state_rules.specs.Rows.{fixeds_in}
use Rattle.open_streams.proofs.owning.owned.Given as goal

abbrev pub invariant-loop-i : goal.invariant-loop-i
invariant-loop-i l = any (owns l.output) (fixeds_in l.n l.t) ≡ any (owns l.output) (drop l.i (fixeds_in l.n l.t))
