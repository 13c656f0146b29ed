use Rattle.io_packets.specs.PacketLaws.{due_before, next_at}
use Rattle.io_packets.proofs.next_due.Goals as goal

pub next_time-n-requires : goal.next_time-n-requires
next_time-n-requires c = let a = c.args in (due_before a.time c.in-Some.t a.d c.in-Some.is c.requires.0, c.requires.1)

pub returns-in-Some : goal.returns-in-Some
returns-in-Some c = let a = c.args in next_at a.time a.rpi c.in-Some.t a.d c.next_time-n.result c.in-Some.is c.next_time-n.ensures.0 c.next_time-n.ensures.1
