use Rattle.state_rules.specs.Setups.{shape_in}
use Rattle.state_layout.proofs.size_at.Goals as goal

pub returns : goal.returns
unfolding shape_in
returns c = c.u16_at.ensures
