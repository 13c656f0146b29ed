use Rattle.std.proofs.Common.{◌≡◌, ◌-◌, ap, sym, ◌∙◌, Some, arith}
use Rattle.base_cells.specs.Numbers.{le}
use Rattle.state_rules.specs.Places.{setup_in}
use Rattle.msg_positions.specs.PositionLaws.{eds_length}
use Rattle.msg_answering.specs.Positions.{mark_small, eds_none, eds_some, eds_long}
use Rattle.msg_answering.proofs.eds_length.Goals as goal

pub overflow_cast-result : goal.overflow_cast-result
overflow_cast-result c = let h = mark_small c.args.s.now c.requires.test in let e = c.u32_at-mark.ensures in omega (arith, c.in_ok-n.ensures)

pub returns : goal.returns
returns c = let s = c.args.s.now in
    let e = c.u32_at-mark.ensures in
    let h = c.in_ok-n.ensures in
    let n : c.in_ok-n.n ≡ le 4 (setup_in s) 4 - 1 = omega (arith, h, e) in
    ap Some (n ∙ sym (eds_long s c.requires.test)) ∙ sym (ap eds_length (eds_some s (λ q. omega (arith, h, e, q))))

pub returns-in_err-n : goal.returns-in_err-n
returns-in_err-n c = let e = c.u32_at-mark.ensures in
    let h = c.in_err-n.ensures in
    c.from_residual.ensures ∙ sym (ap eds_length (eds_none c.args.s.now (omega (arith, e, h))))
