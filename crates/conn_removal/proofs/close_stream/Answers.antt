-- What is left to close gives the whole; the turn that found none ends it.
use Rattle.conn_removal.specs.Listeners.{closing_turn, closing_end, fewer_dropped}
use Rattle.conn_removal.proofs.close_stream.Goals as goal

pub loop-id-preserved : goal.loop-id-preserved
loop-id-preserved c = let w = c.loop-id in
    let r = c.close_first in
    (fewer_dropped _ _ _ _ w.invariant.0 r.ensures.0, closing_turn c.args.id _ _ _ _ w.invariant.1 r.ensures.1)

pub returns : goal.returns
returns c = let w = c.loop-id in
    let r = c.close_first in
    (fewer_dropped _ _ _ _ w.invariant.0 r.ensures.0, closing_end c.args.id _ _ _ _ w.invariant.1 r.ensures.1 c.loop-id-test.false)
