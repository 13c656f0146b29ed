use Rattle.std.proofs.Common.{ap, ◌∙◌}
use Rattle.state_rules.specs.Setups.{shape_in, kind_named}
use Rattle.state_layout.proofs.kind_at.Goals as goal

pub returns : goal.returns
unfolding shape_in
returns c = c.kind_named.ensures ∙ ap kind_named c.u8_at.ensures
