-- The number at its place of the row.
use Rattle.std.proofs.Common.{arith, ◌*◌, sym, ◌∙◌}
use Rattle.state_rules.specs.RowLaws.{in_row}
use Rattle.state_rules.specs.Rows.{dec_fixed}
use Rattle.state_rules.specs.Places.{row_size}
use Rattle.state_fields.proofs.toid_at.Goals as goal

pub returns : goal.returns
unfolding dec_fixed
returns c = let a = c.args in λ j. record { 0 = (c.u32_at.ensures ∙ sym (in_row 4 row_size 40 a.r.now (a.i * row_size) (omega arith))) j }
