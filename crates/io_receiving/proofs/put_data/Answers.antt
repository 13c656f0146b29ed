-- The same bytes stay; others are put.
use Rattle.state_image.specs.Kept.{kept_none}
use Rattle.io_receiving.specs.TakeLaws.{data_same, data_new}
use Rattle.io_receiving.proofs.put_data.Goals as goal

pub returns-then-same_at : goal.returns-then-same_at
returns-then-same_at c = let a = c.args in
    let p = c.requires in
    let r = c.same_at in
    (kept_none a.s.now p.0, data_same a.s.now a.i p.1 a.d.now r.result r.ensures c.if-same_at.true p.0 p.2)

pub returns : goal.returns
returns c = let a = c.args in
    let r = c.same_at in
    let b = c.put_bytes in
    (b.ensures.0, data_new a.s.now a.i c.requires.1 a.d.now r.result r.ensures c.if-same_at.false b.new.s b.ensures.1)
