use Rattle.std.proofs.Common.{arith}
use Rattle.std.specs.Prelude.{nat_le}
use Rattle.state_rules.specs.RowLaws.{byte_small}
use Rattle.state_image.specs.Kept.{byte_of}
use Rattle.io_counting.specs.CountLaws.{added_is}
use Rattle.io_counting.proofs.add_packet.Goals as goal

pub returns : goal.returns
returns c = let a = c.args in
    let p = c.requires.1 in
    let late = nat_le a.limit a.d in
    (omega arith, omega arith, omega (arith, byte_small late), added_is a.n a.d a.limit _ _ a.k (byte_of late) c.max.ensures)
