use Rattle.std.proofs.Common.{◌≡◌, ◌*◌, take, drop}
use Rattle.base_copies.proofs.same_parts.Given as goal

abbrev pub invariant-loop-k : goal.invariant-loop-k
invariant-loop-k g l = take (g.row.W * l.k) (drop l.at l.s) ≡ take (g.row.W * l.k) l.d
