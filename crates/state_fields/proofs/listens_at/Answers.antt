-- The kind's test on the role.
use Rattle.std.proofs.Common.{arith, ℕ, ◌*◌, ap, sym, ◌∙◌}
use Rattle.rules.specs.State.{is_listener}
use Rattle.state_rules.specs.RowLaws.{in_row, listener_role}
use Rattle.state_rules.specs.Rows.{dec_fixed, kind_in}
use Rattle.state_rules.specs.Places.{row_size}
use Rattle.state_fields.proofs.listens_at.Goals as goal

pub returns : goal.returns
unfolding dec_fixed
returns c = let a = c.args in
    listener_role c.u8_at.result
    ∙ ap (λ (n : ℕ). is_listener (kind_in n)) (c.u8_at.ensures ∙ sym (in_row 1 row_size 29 a.r.now (a.i * row_size) (omega arith)))
