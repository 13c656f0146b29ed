-- Bytes that are too long are refused; else they are copied, and the rest is made zero.
use Rattle.std.proofs.Common.{arith}
use Rattle.app_inputs.specs.Inputs.{input_long, input_set_lem}
use Rattle.app_inputs.proofs.fill_input.Goals as goal

pub returns-then-m-n : goal.returns-then-m-n
returns-then-m-n c = let a = c.args in
    input_long a.s.now c.requires.0.test (λ j. omega (arith, c.slice_known-1.given j)) a.i c.requires.1 a.d.now _ c.size_at-n.ensures c.if-m-n.true

pub returns : goal.returns
returns c = let a = c.args in
    input_set_lem a.s.now c.requires.0.test (λ j. omega (arith, c.slice_known-1.given j)) a.i c.requires.1 a.d.now _ c.size_at-n.ensures c.if-m-n.false
    _ _ c.copy_in.ensures c.zero.ensures
