-- Not an owner, no such output, or an output that loses run.
use Rattle.std.proofs.Common.{sym, ◌∙◌}
use Rattle.state_image.specs.Kept.{kept_none}
use Rattle.conn_removal.specs.Hands.{idles_not, idles_past, idles}
use Rattle.conn_removal.proofs.lose_run.Goals as goal

pub returns-then-not-is_owner : goal.returns-then-not-is_owner
returns-then-not-is_owner c = let a = c.args in
    (kept_none a.s.now c.requires, idles_not a.k a.output a.s.now (sym c.is_owner.ensures ∙ c.if-not-is_owner.true))

pub returns-then-output-n : goal.returns-then-output-n
returns-then-output-n c = let a = c.args in
    let owner = sym c.is_owner.ensures ∙ c.if-not-is_owner.false in
    (kept_none a.s.now c.requires, idles_past a.k a.output a.s.now owner c.u8_at-n.result c.u8_at-n.ensures c.if-output-n.true)

pub returns : goal.returns
returns c = let a = c.args in
    let owner = sym c.is_owner.ensures ∙ c.if-not-is_owner.false in (
      c.put_mark.ensures.0,
      idles a.k a.output a.s.now owner c.u8_at-n.result c.u8_at-n.ensures c.if-output-n.false c.told-told.result c.put_mark.new.s
          c.told-told.ensures c.put_mark.ensures.1,
    )
