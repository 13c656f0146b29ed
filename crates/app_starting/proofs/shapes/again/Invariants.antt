use Rattle.std.proofs.Common.{◌≡◌, eqb, drop}
use Rattle.rules.specs.Lists.{any}
use Rattle.app_starting.specs.Shapes.{instances_in}
use Rattle.app_starting.proofs.shapes.again.Given as goal

abbrev pub invariant-loop-i : goal.invariant-loop-i
invariant-loop-i l = any (eqb l.x) (drop l.j (instances_in l.n l.r)) ≡ any (eqb l.x) (drop l.i (instances_in l.n l.r))
