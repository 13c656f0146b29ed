use Rattle.std.proofs.Common.{◌≡◌, ◌*◌, take, drop}
use Rattle.base_copies.specs.Same.{Tells}
use Rattle.base_copies.proofs.same_numbers.Given as goal

abbrev pub invariant-loop-i : goal.invariant-loop-i
invariant-loop-i g l = Tells l.same (take (8 * l.i) (drop l.at l.s) ≡ take (8 * l.i) (drop l.j l.d))
