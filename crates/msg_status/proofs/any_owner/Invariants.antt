use Rattle.std.proofs.Common.{◌≡◌, drop}
use Rattle.rules.specs.Lists.{any}
use Rattle.state_rules.specs.Rows.{conns_in}
use Rattle.msg_status.specs.Status.{owner_in}
use Rattle.msg_status.proofs.any_owner.Given as goal

abbrev pub invariant-loop-i : goal.invariant-loop-i
invariant-loop-i l = any owner_in (conns_in l.n l.r) ≡ any owner_in (drop l.i (conns_in l.n l.r))
