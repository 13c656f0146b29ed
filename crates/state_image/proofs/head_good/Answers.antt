-- The head's three numbers, read first and then compared.
use Rattle.state_image.specs.TestLaws.{head_is}
use Rattle.state_image.proofs.head_good.Goals as goal

pub returns : goal.returns
returns c = head_is _ _ _ _ c.u32_at-id.ensures c.u32_at-ring.ensures c.u16_at-conns.ensures
