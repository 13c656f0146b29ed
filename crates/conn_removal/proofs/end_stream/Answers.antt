use Rattle.conn_removal.specs.Turns.{fewer_none, is_there, is_nowhere}
use Rattle.conn_removal.specs.Listeners.{ends_not, ends_fed, ends_all}
use Rattle.conn_removal.proofs.end_stream.Goals as goal

pub returns-then-not-can_feed : goal.returns-then-not-can_feed
returns-then-not-can_feed c = let a = c.args in
    let r = c.can_feed.result in
    (fewer_none a.s.now c.requires, ends_not a.k a.multicast a.id a.s.now r c.can_feed.ensures c.if-not-can_feed.true)

pub returns-then-is_none : goal.returns-then-is_none
returns-then-is_none c = let a = c.args in
    let r = c.can_feed.result in
    (c.close_stream.ensures.0, ends_all a.k a.multicast a.id a.s.now r c.can_feed.ensures c.if-not-can_feed.false c.u16_at-n.result c.find_feeder.result c.u16_at-n.ensures c.find_feeder.ensures (is_nowhere c.find_feeder.result c.if-is_none.ensures) c.close_stream.new.s c.close_stream.ensures.1)

pub returns-else-is_none : goal.returns-else-is_none
returns-else-is_none c = let a = c.args in
    let r = c.can_feed.result in
    let w = is_there c.find_feeder.result c.if-is_none.ensures in
    (fewer_none a.s.now c.requires, ends_fed a.k a.multicast a.id a.s.now r c.can_feed.ensures c.if-not-can_feed.false c.u16_at-n.result c.find_feeder.result c.u16_at-n.ensures c.find_feeder.ensures w.0 w.1)
