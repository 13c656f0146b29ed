use Rattle.std.proofs.Common.{◌+◌, refl, length}
use Rattle.io_packets.specs.PacketLaws.{packet_put}
use Rattle.io_packets.proofs.write_packet.Goals as goal

pub returns : goal.returns
returns c = let a = c.args in packet_put a.f a.x a.d.now a.o.now c.write_head.new.o c.append_io.new.out (20 + length a.d.now) c.append_io.result c.requires.0 c.requires.1 refl c.write_head.ensures c.append_io.ensures
