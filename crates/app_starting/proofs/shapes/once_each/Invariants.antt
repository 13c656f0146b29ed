use Rattle.std.proofs.Common.{◌≡◌, drop}
use Rattle.rules.specs.Setup.{distinct}
use Rattle.app_starting.specs.Shapes.{instances_in}
use Rattle.app_starting.proofs.shapes.once_each.Given as goal

abbrev pub invariant-loop-i : goal.invariant-loop-i
invariant-loop-i l = distinct (instances_in l.n l.r) ≡ distinct (drop l.i (instances_in l.n l.r))
