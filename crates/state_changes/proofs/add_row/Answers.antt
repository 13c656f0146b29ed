use Rattle.std.proofs.Common.{arith, ◌+◌}
use Rattle.state_image.specs.Kept.{kept_counted}
use Rattle.state_image.specs.Changes.{added_becomes}
use Rattle.state_changes.proofs.add_row.Goals as goal

pub returns : goal.returns
returns c = let s = c.args.s.now in
    let w = c.put_conn_at in
    let x = w.new.r in
    let n = c.u16_at-n.result in
    let e = c.u16_at-n.ensures in
    let p = c.requires.1 in
    rw (c.put_u16.ensures, ← e)
    (kept_counted s c.requires.0 x w.auto.r (n + 1) (omega arith), added_becomes s x n c.args.c e (omega arith) w.ensures)
