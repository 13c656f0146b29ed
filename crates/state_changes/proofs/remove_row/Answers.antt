use Rattle.std.proofs.Common.{arith, ◌-◌}
use Rattle.state_image.specs.Kept.{kept_counted}
use Rattle.state_image.specs.Changes.{gone_becomes}
use Rattle.state_changes.proofs.remove_row.Goals as goal

pub returns : goal.returns
returns c = let s = c.args.s.now in
    let w = c.cut_row in
    let x = w.new.r in
    let n = c.u16_at-n.result in
    let e = c.u16_at-n.ensures in
    let p = c.requires.1 in
    let b = c.requires.0.conns in
    rw (c.put_u16.ensures, ← e)
    (kept_counted s c.requires.0 x w.auto.r (n - 1) (omega arith), gone_becomes s x n c.args.i e (omega arith) w.ensures)
