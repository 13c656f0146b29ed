-- The number at the row's start is the due time's own.
use Rattle.std.proofs.Common.{arith, ◌+◌, ◌*◌, ◌≡◌, ap, sym, ◌∙◌}
use Rattle.base_cells.specs.Numbers.{le}
use Rattle.state_rules.specs.RowLaws.{in_row, of_to_due}
use Rattle.state_rules.specs.Rows.{dec_sent, row_at}
use Rattle.state_rules.specs.Places.{row_size}
use Rattle.state_fields.proofs.due_number_at.Goals as goal

pub returns : goal.returns
unfolding dec_sent
returns c = let a = c.args in
    let q : a.i * row_size ≡ a.i * row_size + 0 = omega arith in
    c.u64_at.ensures
    ∙ ap (le 8 a.r.now) q
    ∙ sym (in_row 8 row_size 0 a.r.now (a.i * row_size) (omega arith))
    ∙ sym (of_to_due (le 8 (row_at a.r.now a.i) 0))
