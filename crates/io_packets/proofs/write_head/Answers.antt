use Rattle.base_cells.specs.Records.{of_bool}
use Rattle.io_packets.specs.PacketLaws.{head_put}
use Rattle.io_packets.proofs.write_head.Goals as goal

pub returns : goal.returns
returns c = let a = c.args in head_put a.address a.port (of_bool a.multicast) a.local a.n a.o.now c.put_be32.new.s c.put_be16.new.s c.put_bool.new.s c.put_be32-2.new.s c.put_be16-2.new.s c.put_be32.ensures c.put_be16.ensures c.put_bool.ensures c.put_be32-2.ensures c.put_be16-2.ensures
