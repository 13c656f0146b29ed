use Rattle.base_cells.specs.Numbers.{lent_at}
use Rattle.base_cells.specs.Records.{put_fields_eq}
use Rattle.std.proofs.Common.{take, drop, arith, ℕ, ◌+◌, ◌*◌, ◌-◌, ap, ◌∙◌}
use borrow.Rule.Slice.PartMut.{put_mid}
use Rattle.state_rules.specs.Rows.{w_sent, list_sent, enc_sent}
use Rattle.state_rules.specs.RowLaws.{length_enc_sent}
use Rattle.state_rules.specs.Places.{row_size}
use Rattle.state_inplace.proofs.put_sent_at.Goals as goal

pub returns : goal.returns
unfolding enc_sent
returns c = let a = c.args in
    let at : ℕ = a.i * row_size in
    let k : ℕ = at + row_size - at in
    ap (put_mid at k a.r.now) (c.put_sent_in.ensures ∙ put_fields_eq w_sent (take k (drop at a.r.now)) 0 (list_sent a.s))
    ∙ lent_at a.r.now at k 0 (enc_sent a.s) (omega (arith, length_enc_sent a.s)) (omega arith)
