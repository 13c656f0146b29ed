use Rattle.std.proofs.Common.{arith}
use Rattle.io_packets.specs.PacketLaws.{next_late, next_old}
use Rattle.io_packets.proofs.next_time.Goals as goal

pub returns-then-n-time : goal.returns-then-n-time
returns-then-n-time c = let a = c.args in (next_late a.time a.rpi a.t c.if-n-time.true, omega arith)

pub returns-else-n-time : goal.returns-else-n-time
returns-else-n-time c = let a = c.args in (next_old a.time a.rpi a.t c.if-n-time.false, omega arith)
