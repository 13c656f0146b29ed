-- Whether an assembly runs is its mark's lowest bit.
use Rattle.std.proofs.Common.{ap}
use Rattle.state_rules.specs.Bits.{run_in}
use Rattle.state_layout.proofs.runs.Goals as goal

pub returns : goal.returns
returns c = ap run_in c.u8_at.ensures
