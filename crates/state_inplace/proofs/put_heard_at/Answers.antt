use Rattle.base_cells.specs.Numbers.{lent_at}
use Rattle.base_cells.specs.Records.{put_fields_eq}
use Rattle.std.proofs.Common.{take, drop, arith, ℕ, ◌+◌, ◌*◌, ◌-◌, ◌/◌, ap, ◌∙◌}
use borrow.Rule.Slice.PartMut.{put_mid}
use Rattle.state_rules.specs.Rows.{w_heard, list_heard, enc_heard}
use Rattle.state_rules.specs.RowLaws.{length_enc_heard}
use Rattle.state_rules.specs.Places.{row_size}
use lib.Seq.{sets}
use Rattle.state_inplace.proofs.put_heard_at.Goals as goal

pub returns : goal.returns
unfolding enc_heard
returns c = let a = c.args in
    let at : ℕ = a.i * row_size in
    let k : ℕ = at + row_size - at in
    let carried : ℕ = c.u8_at-carried.result / 4 in
    ap (put_mid at k a.r.now) (c.put_heard_in.ensures ∙ put_fields_eq w_heard (take k (drop at a.r.now)) 14 (list_heard carried a.h))
    ∙ lent_at a.r.now at k 14 (enc_heard carried a.h) (omega (arith, length_enc_heard carried a.h)) (omega arith)
    ∙ ap (λ (n : ℕ). sets a.r.now (at + 14) (enc_heard (n / 4) a.h)) c.u8_at-carried.ensures
