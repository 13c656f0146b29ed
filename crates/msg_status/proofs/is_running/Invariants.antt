use Rattle.std.proofs.Common.{◌≡◌, drop}
use Rattle.rules.specs.Lists.{any}
use Rattle.rules.specs.Objects.{running}
use Rattle.state_rules.specs.Places.{table_in, connections_of}
use Rattle.state_rules.specs.Rows.{conns_in}
use Rattle.state_rules.specs.Image.{view}
use Rattle.msg_status.specs.Status.{runs_in}
use Rattle.msg_status.proofs.is_running.Given as goal

abbrev pub invariant-loop-i : goal.invariant-loop-i
invariant-loop-i l = running (view l.s) ≡ any (runs_in (view l.s)) (drop l.i (conns_in (connections_of l.s) (table_in l.s)))
