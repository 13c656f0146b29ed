-- Too little room, or the run byte and the data copied out and the mark written.
use Rattle.std.proofs.Common.{ℕ, ◌+◌, ◌*◌, ap, arith, take, drop}
use native.Mathlib.Nat.{add-sub_cancel_left}
use Rattle.state_rules.specs.Places.{data_from}
use Rattle.app_outputs.specs.Outputs.{output_short, output_wrote}
use Rattle.app_outputs.proofs.take_output.Goals as goal

pub returns-then-out-n : goal.returns-then-out-n
returns-then-out-n c = let a = c.args in
    output_short a.s.now c.requires.0.test (λ j. omega (arith, c.slice_known-1.given j)) a.i c.requires.1 a.out.now _ c.size_at-n.ensures c.if-out-n.true

pub overflow_cast-result : goal.overflow_cast-result
overflow_cast-result c = let h = c.requires.0.slotted c.args.i c.requires.1 in
    let e = c.size_at-n.ensures in omega arith

pub returns : goal.returns
returns c = let a = c.args in
    let s = a.s.now in
    let n : ℕ = c.size_at-n.result in
    output_wrote s c.requires.0.test (λ j. omega (arith, c.slice_known-1.given j)) a.i c.requires.1 a.out.now n c.size_at-n.ensures c.if-out-n.false
    c.runs-run.result _ _ _ _ c.runs-run.ensures
    (ap (λ (m : ℕ). take m (drop (data_from + a.i * 512) s)) (add-sub_cancel_left (data_from + a.i * 512) n)) c.put_u8.ensures c.copy_in.ensures
    c.put_mark.ensures.1
