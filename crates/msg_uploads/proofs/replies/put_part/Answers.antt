use Rattle.std.proofs.Common.{ap, sym, ◌∙◌, arith}
use lib.Seq.{sets}
use Rattle.msg_uploads.proofs.SendLaws.{part_is, part_long}
use Rattle.msg_uploads.proofs.replies.put_part.Goals as goal

pub returns : goal.returns
returns c = let v = c.min-from in
    let w = c.min-to in
    let a = c.args in (
      sym (part_long a.eds.now a.size a.offset v.result w.result v.ensures w.ensures),
      omega (arith, v.ensures, w.ensures),
      c.copy_in.ensures ∙ ap (sets a.out.now 2) (part_is a.eds.now a.size a.offset v.result w.result v.ensures w.ensures),
    )
