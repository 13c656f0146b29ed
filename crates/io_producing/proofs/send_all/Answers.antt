use Rattle.std.proofs.Common.{arith, refl, sym, ◌∙◌}
use Rattle.state_image.specs.Kept.{kept_slotted}
use Rattle.io_producing.specs.SendLaws.{send_start, send_turn, send_end}
use Rattle.io_producing.proofs.send_all.Goals as goal

pub u16_at-n-requires : goal.u16_at-n-requires
u16_at-n-requires c = let e = c.requires.0.long in omega arith

pub loop-i-init : goal.loop-i-init
loop-i-init c = let a = c.args in
    (omega arith, refl, record { ready = c.requires.0; setup = refl; conns = sym c.u16_at-n.ensures }, c.u16_at-n.ensures, send_start a.time a.s.now a.out.now)

pub send_row-at-requires : goal.send_row-at-requires
send_row-at-requires c = let w = c.loop-i in
    let p = c.requires in
    let k = w.invariant.2 in
    (k.ready, kept_slotted _ c.args.s.now w.s p.0 k p.1, (let e = k.conns in omega arith), w.invariant.0, p.2)

pub overflow_add-at : goal.overflow_add-at
overflow_add-at c = let q = c.send_row-at.ensures.0 in omega arith

pub loop-i-preserved : goal.loop-i-preserved
loop-i-preserved c = let a = c.args in
    let w = c.loop-i in
    let r = c.send_row-at in
    let d = r.ensures in (
      (let q = d.0 in let e = r.auto.out in omega arith),
      r.auto.out ∙ w.invariant.1,
      record { ready = d.1.ready; setup = d.1.setup ∙ w.invariant.2.setup; conns = d.1.conns ∙ w.invariant.2.conns },
      w.invariant.3,
      send_turn a.time w.i w.at r.result a.s.now w.s r.new.s a.out.now w.out r.new.out (let e = w.invariant.3 in omega arith) w.invariant.4 d.2,
    )

pub shape_of-s : goal.shape_of-s
shape_of-s c = c.loop-i.invariant.2.ready.long ∙ sym c.requires.0.long

pub shape_of-out : goal.shape_of-out
shape_of-out c = c.loop-i.invariant.1

pub returns : goal.returns
returns c = let a = c.args in
    let w = c.loop-i in
    (w.invariant.2.ready, send_end a.time w.i w.at a.s.now w.s a.out.now w.out (let e = w.invariant.3 in omega arith) w.invariant.4)
