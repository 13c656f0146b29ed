-- What the flags say, found in the whole region.
use Rattle.std.proofs.Common.{arith, ◌*◌, ap, sym, ◌∙◌}
use Rattle.state_rules.specs.RowLaws.{in_row}
use Rattle.state_rules.specs.Rows.{dec_fixed, multicast_in}
use Rattle.state_rules.specs.Places.{row_size}
use Rattle.state_fields.proofs.multicast_at.Goals as goal

pub returns : goal.returns
unfolding dec_fixed
returns c = let a = c.args in
    c.multicast_in.ensures ∙ ap multicast_in (c.u8_at.ensures ∙ sym (in_row 1 row_size 28 a.r.now (a.i * row_size) (omega arith)))
