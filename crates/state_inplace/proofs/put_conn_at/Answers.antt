use Rattle.base_cells.specs.Numbers.{lent_at}
use borrow.Rule.Slice.PartMut.{put_mid}
use Rattle.std.proofs.Common.{arith, ℕ, ◌+◌, ◌*◌, ◌-◌, ap, ◌∙◌}
use Rattle.state_rules.specs.Rows.{enc_conn}
use Rattle.state_rules.specs.RowLaws.{length_enc_conn}
use Rattle.state_rules.specs.Places.{row_size}
use Rattle.state_inplace.proofs.put_conn_at.Goals as goal

pub returns : goal.returns
returns c = let a = c.args in
    let at : ℕ = a.i * row_size in
    let k : ℕ = at + row_size - at in
    ap (put_mid at k a.r.now) c.put_conn_in.ensures
    ∙ lent_at a.r.now at k 0 (enc_conn a.c) (omega (arith, length_enc_conn a.c)) (omega arith)
