use Rattle.std.proofs.Common.{ℕ, ◌+◌, ◌*◌, ap, arith, take, drop}
use native.Mathlib.Nat.{add-sub_cancel_left}
use Rattle.app_outputs.specs.Outputs.{assembly_short, assembly_wrote}
use Rattle.state_rules.specs.Places.{data_from}
use Rattle.app_outputs.proofs.copy_assembly.Goals as goal

pub returns-then-out-n : goal.returns-then-out-n
returns-then-out-n c = let a = c.args in
    assembly_short a.s.now c.requires.0.test (λ j. omega (arith, c.shared_slice_known-1.given j)) a.i c.requires.1 a.out.now _ c.size_at-n.ensures c.if-out-n.true

pub returns : goal.returns
returns c = let a = c.args in let n : ℕ = c.size_at-n.result in
    assembly_wrote a.s.now c.requires.0.test (λ j. omega (arith, c.shared_slice_known-1.given j)) a.i c.requires.1 a.out.now n c.size_at-n.ensures c.if-out-n.false _ _
    (ap (λ (m : ℕ). take m (drop (data_from + a.i * 512) a.s.now)) (add-sub_cancel_left (data_from + a.i * 512) n)) c.copy_in.ensures
