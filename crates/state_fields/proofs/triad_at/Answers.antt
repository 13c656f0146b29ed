-- The three numbers at their places of the row.
use Rattle.std.proofs.Common.{arith, ◌*◌, sym, ◌∙◌}
use Rattle.state_rules.specs.RowLaws.{in_row}
use Rattle.state_rules.specs.Rows.{dec_fixed}
use Rattle.state_rules.specs.Places.{row_size}
use Rattle.state_fields.proofs.triad_at.Goals as goal

pub returns : goal.returns
unfolding dec_fixed
returns c = let a = c.args in
    λ j. record {
      serial = (c.u16_at.ensures ∙ sym (in_row 2 row_size 60 a.r.now (a.i * row_size) (omega arith))) j;
      vendor = (c.u16_at-2.ensures ∙ sym (in_row 2 row_size 62 a.r.now (a.i * row_size) (omega arith))) j;
      originator = (c.u32_at.ensures ∙ sym (in_row 4 row_size 64 a.r.now (a.i * row_size) (omega arith))) j;
    }
