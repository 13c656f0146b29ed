use Rattle.state_rules.specs.Places.{connections_of}
use Rattle.conn_removal.specs.Turns.{Fewer}
use Rattle.conn_removal.specs.Listeners.{Closing}
use Rattle.conn_removal.proofs.close_stream.Given as goal

abbrev pub invariant-loop-id : goal.invariant-loop-id
invariant-loop-id l = Fewer l.initial.s l.s × Closing l.id l.initial.s l.s

abbrev pub decreases-loop-id : goal.decreases-loop-id
decreases-loop-id l = connections_of l.s
