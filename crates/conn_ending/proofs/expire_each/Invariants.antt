use Rattle.conn_removal.specs.Turns.{Fewer}
use Rattle.conn_ending.specs.Expiry.{Going}
use Rattle.conn_ending.proofs.expire_each.Given as goal

abbrev pub invariant-loop : goal.invariant-loop
invariant-loop l = Fewer l.initial.s l.s × Going l.time l.n l.counter l.initial.s l.s
