use Rattle.io_packets.specs.PacketLaws.{step_is}
use Rattle.io_packets.proofs.step.Goals as goal

pub returns : goal.returns
returns c = let a = c.args in (step_is a.time a.rpi a.x c.next_due-due.result c.next_due-due.ensures.0, c.next_due-due.ensures.1)
