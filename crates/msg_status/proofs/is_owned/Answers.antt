use Rattle.std.proofs.Common.{ap, sym, ◌∙◌, ℕ}
use Rattle.rules.specs.Lists.{any}
use Rattle.state_rules.specs.Places.{table_in}
use Rattle.state_rules.specs.Rows.{conns_in}
use Rattle.msg_status.specs.Status.{owner_in, owned_rows}
use Rattle.msg_status.proofs.is_owned.Goals as goal

pub returns : goal.returns
returns c = c.any_owner.ensures ∙ ap (λ (n : ℕ). any owner_in (conns_in n (table_in c.args.s.now))) c.u16_at-n.ensures ∙ sym (owned_rows c.args.s.now)
