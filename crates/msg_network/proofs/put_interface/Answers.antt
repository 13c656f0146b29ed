use Rattle.base_cells.specs.Records.{done, step}
use Rattle.msg_network.specs.Network.{gives_interface}
use Rattle.msg_network.proofs.put_interface.Goals as goal

pub returns : goal.returns
returns c = gives_interface _ _ _ _
    (step c.put_u32.ensures (step c.put_u32-2.ensures (step c.put_u32-3.ensures (step c.put_u32-4.ensures (step c.put_u32-5.ensures (step c.put_u16.ensures done))))))
