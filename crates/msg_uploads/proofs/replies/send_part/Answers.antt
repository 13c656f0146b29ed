use Rattle.std.proofs.Common.{refl, ap, ◌∙◌}
use Rattle.base_cells.specs.Numbers.{put}
use Rattle.msg_uploads.proofs.SendLaws.{part_sent}
use Rattle.msg_uploads.proofs.replies.send_part.Goals as goal

pub returns : goal.returns
returns c = let a = c.args in
    let n = c.put_part-n.ensures in
    let m = c.put_tail-m.ensures in
    part_sent a.eds.now a.size a.number a.offset _ refl a.out.now _ _ _ _ _ _ n.0 m.0
    c.put_u8.ensures (c.put_u8-2.ensures ∙ ap (put 1 _ 1) c.transfer_type.ensures) n.2 m.2
