use Rattle.std.proofs.Common.{◌+◌, drop, sym, refl, ap, ◌∙◌}
use Rattle.std.specs.Prelude.{Some}
use Rattle.rules.specs.Removal.{least_of}
use Rattle.state_rules.specs.Rows.{conns_in}
use Rattle.io_deadlines.specs.Deadlines.{least_turn, least_end, least_whole}
use Rattle.io_deadlines.proofs.least.Goals as goal

pub loop-i-init : goal.loop-i-init
loop-i-init c = refl

pub loop-i-preserved : goal.loop-i-preserved
loop-i-preserved c = let w = c.loop-i in
    let a = c.args in
    ap (λ z. least_of z (drop (w.i + 1) (conns_in a.n a.r.now))) c.min-m.ensures
    ∙ sym (least_turn a.n a.r.now w.m c.row_deadline.result w.i c.loop-i-test.true c.row_deadline.ensures)
    ∙ w.invariant

pub returns : goal.returns
returns c = let w = c.loop-i in
    let a = c.args in
    least_whole a.n a.r.now c.row_deadline-m.result c.requires.0 c.row_deadline-m.ensures ∙ ap Some (sym w.invariant ∙ least_end a.n a.r.now w.m w.i c.loop-i-test.false)
