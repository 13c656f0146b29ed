use Rattle.io_packets.specs.PacketLaws.{at_due}
use Rattle.io_packets.proofs.is_due.Goals as goal

pub returns-in-Some : goal.returns-in-Some
returns-in-Some c = at_due c.args.time c.in-Some.t c.args.d c.in-Some.is
