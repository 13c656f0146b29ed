-- Hand-over, the listeners, the run bit and the event, one after the other.
use Rattle.conn_removal.specs.Turns.{turn_told}
use Rattle.conn_removal.specs.Removals.{follows, fewer_follows}
use Rattle.conn_removal.proofs.finish.Goals as goal

pub returns : goal.returns
returns c = let a = c.args in (
  fewer_follows a.s.now c.hand_over.new.s c.end_stream.new.s c.lose_run.new.s c.tell.new.s
      c.hand_over.ensures.0 c.end_stream.ensures.0 c.lose_run.ensures.0 c.tell.ensures.0,
  follows a.s.now c.hand_over.new.s c.end_stream.new.s c.lose_run.new.s c.tell.new.s a.what a.f a.x
      c.hand_over.ensures.1 c.end_stream.ensures.1 c.lose_run.ensures.1
      (turn_told c.lose_run.new.s c.tell.new.s a.what a.f c.tell.ensures.1),
)
