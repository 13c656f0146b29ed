use Rattle.std.proofs.Common.{arith, ◌+◌, ◌*◌, ◌≡◌, ap, sym, ◌∙◌}
use Rattle.state_rules.specs.RowLaws.{in_row}
use Rattle.state_rules.specs.Rows.{dec_sent, to_due}
use Rattle.base_cells.specs.Numbers.{le}
use Rattle.state_rules.specs.Places.{row_size}
use Rattle.state_fields.proofs.due_at.Goals as goal

pub returns : goal.returns
unfolding dec_sent
returns c = let a = c.args in
    c.due_of.ensures ∙ ap to_due (c.u64_at.ensures ∙ ap (le 8 a.r.now) (let q : a.i * row_size ≡ a.i * row_size + 0 = omega arith in q) ∙ sym (in_row 8 row_size 0 a.r.now (a.i * row_size) (omega arith)))
