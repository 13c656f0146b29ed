use Rattle.std.proofs.Common.{◌≡◌, drop}
use Rattle.rules.specs.Lists.{find}
use Rattle.state_rules.specs.Rows.{fixeds_in}
use Rattle.open_streams.specs.Joining.{carries_for}
use Rattle.open_streams.proofs.joining.first_stream.Given as goal

abbrev pub invariant-loop-i : goal.invariant-loop-i
invariant-loop-i l = find (carries_for l.listens l.input l.rpi) (fixeds_in l.n l.t) ≡ find (carries_for l.listens l.input l.rpi) (drop l.i (fixeds_in l.n l.t))
