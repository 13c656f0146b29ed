use Rattle.std.proofs.Common.{◌*◌, refl, ap, ◌∙◌, arith, length}
use lib.Seq.{length-sets}
use Rattle.app_listing.specs.Listing.{record_at, tell_more, table_short, table_told}
use Rattle.app_listing.proofs.connections.Goals as goal

pub returns-then-out-n : goal.returns-then-out-n
returns-then-out-n c = table_short c.args.s.now c.args.out.now c.requires.test _ c.u16_at-n.ensures c.if-out-n.true

pub loop-i-init : goal.loop-i-init
loop-i-init c = (refl, refl)

pub tell-requires : goal.tell-requires
tell-requires c = let e = c.u16_at-n.ensures in let w = c.loop-i in let k = w.invariant.1 in let h = c.if-out-n.false in
    (c.requires.ready, omega arith, omega arith)

pub loop-i-preserved : goal.loop-i-preserved
loop-i-preserved c = let a = c.args in let w = c.loop-i in let e = c.u16_at-n.ensures in
    (c.tell.ensures ∙ tell_more a.s.now a.out.now w.out w.i (omega arith) w.invariant.0, ap length c.tell.ensures ∙ length-sets w.out (w.i * 32) (record_at a.s.now w.i) ∙ w.invariant.1)

pub overflow_cast-result : goal.overflow_cast-result
overflow_cast-result c = let e = c.u16_at-n.ensures in let p = c.requires.ready.conns in omega arith

pub shape_of-out : goal.shape_of-out
shape_of-out c = c.loop-i.invariant.1

pub returns : goal.returns
returns c = let a = c.args in let w = c.loop-i in
    table_told a.s.now a.out.now c.requires.test _ c.u16_at-n.ensures c.if-out-n.false _ w.i c.loop-i-test.false w.invariant.0
