-- What was found so far tells of the rows before i, the rest of the others.
use Rattle.std.proofs.Common.{arith, refl}
use Rattle.conn_lookup.specs.AnyExpired.{found_more, found_all}
use Rattle.conn_lookup.proofs.any_expired.Goals as goal

pub loop-i-init : goal.loop-i-init
loop-i-init c = refl

pub loop-i-preserved : goal.loop-i-preserved
loop-i-preserved c = let w = c.loop-i in
    let a = c.args in
    found_more a.time a.n a.r.now w.found c.until_at.result w.i (omega arith) c.until_at.ensures w.invariant

pub returns : goal.returns
returns c = let w = c.loop-i in
    let a = c.args in
    found_all a.time a.n a.r.now w.found w.i (omega arith) w.invariant
