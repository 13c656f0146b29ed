use Rattle.std.proofs.Common.{arith, ◌*◌, sym, ◌∙◌}
use Rattle.state_rules.specs.RowLaws.{in_row}
use Rattle.state_rules.specs.Rows.{dec_heard}
use Rattle.state_rules.specs.Places.{row_size}
use Rattle.state_fields.proofs.until_at.Goals as goal

pub returns : goal.returns
unfolding dec_heard
returns c = let a = c.args in c.u64_at.ensures ∙ sym (in_row 8 row_size 16 a.r.now (a.i * row_size) (omega arith))
