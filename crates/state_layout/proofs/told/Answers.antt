-- Whether an event waits for an assembly is the bit above.
use Rattle.std.proofs.Common.{ap}
use Rattle.state_rules.specs.Bits.{notified_in}
use Rattle.state_layout.proofs.told.Goals as goal

pub returns : goal.returns
returns c = ap notified_in c.u8_at.ensures
