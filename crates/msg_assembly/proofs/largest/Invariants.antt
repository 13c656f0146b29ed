use Rattle.std.proofs.Common.{max, ◌≡◌, drop}
use Rattle.rules.specs.Objects.{largest_instance}
use Rattle.state_rules.specs.Setups.{shapes_of}
use Rattle.msg_assembly.proofs.largest.Given as goal

abbrev pub invariant-loop-i : goal.invariant-loop-i
invariant-loop-i l = max l.most (largest_instance (drop l.i (shapes_of l.r))) ≡ largest_instance (shapes_of l.r)
