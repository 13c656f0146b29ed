use Rattle.std.proofs.Common.{ap, ◌∙◌}
use Rattle.rules.specs.declared.Fixed.{Fixed}
use Rattle.rules.specs.State.{is_owner}
use Rattle.msg_status.proofs.owner_at.Goals as goal

pub returns : goal.returns
returns c = c.is_owner.ensures ∙ ap (λ (f : Fixed). is_owner f.kind) c.fixed_at.ensures
