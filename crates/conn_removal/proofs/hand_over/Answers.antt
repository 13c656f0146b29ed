use Rattle.rules.specs.Removal.{in_stream}
use Rattle.state_image.specs.Kept.{kept_none}
use Rattle.conn_removal.specs.Turns.{found_in}
use Rattle.conn_removal.specs.Hands.{produces_as, hands_single, hands_silent, hands_nowhere, hands_on}
use Rattle.conn_removal.proofs.hand_over.Goals.{then-not-multicast-via-then-not-multicast, then-not-multicast-via-else-not-multicast+then-is_none}
use Rattle.conn_removal.proofs.hand_over.Goals as goal

pub returns-then-not-multicast : goal.returns-then-not-multicast
returns-then-not-multicast c = let a = c.args in (
  kept_none a.s.now c.requires.0,
  elim c.then-not-multicast.branch [
    | then-not-multicast-via-then-not-multicast w ↦ hands_single a.multicast a.id a.x a.s.now w.if-not-multicast.true
    | then-not-multicast-via-else-not-multicast+then-is_none w ↦ hands_silent a.multicast a.id a.x a.s.now w.if-not-multicast.false (produces_as a.x.due _ w.if-is_none.ensures)
  ],
)

pub put_sent-requires : goal.put_sent-requires
put_sent-requires c = let a = c.args in (c.requires.0, found_in (in_stream a.id) a.s.now c.u16_at-n.result c.find_stream.result c.u16_at-n.ensures c.find_stream.ensures c.in-Some.j c.in-Some.is, c.requires.1)

pub returns-in_default : goal.returns-in_default
returns-in_default c = let a = c.args in (kept_none a.s.now c.requires.0, hands_nowhere a.multicast a.id a.x a.s.now c.if-not-multicast.false (produces_as a.x.due _ c.if-is_none.ensures) c.u16_at-n.result c.find_stream.result c.u16_at-n.ensures c.find_stream.ensures c.in_default.is)

pub returns-in-Some : goal.returns-in-Some
returns-in-Some c = let a = c.args in (c.put_sent.ensures.0, hands_on a.multicast a.id a.x a.s.now c.if-not-multicast.false (produces_as a.x.due _ c.if-is_none.ensures) c.u16_at-n.result c.find_stream.result c.u16_at-n.ensures c.find_stream.ensures c.in-Some.j c.in-Some.is c.put_sent.new.s c.put_sent.ensures.1)
