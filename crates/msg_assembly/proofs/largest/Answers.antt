use Rattle.std.proofs.Common.{◌∙◌, arith}
use Rattle.state_rules.specs.Places.{assemblies_of}
use Rattle.msg_assembly.specs.Instances.{largest_starts, largest_on, largest_ends}
use Rattle.msg_assembly.proofs.largest.Goals as goal

pub loop-i-init : goal.loop-i-init
loop-i-init c = let a = c.args in largest_starts (assemblies_of a.r.now) a.r.now

pub instance_at-requires : goal.instance_at-requires
instance_at-requires c = let e = c.u8_at-n.ensures in let p = c.requires in (omega arith, omega arith)

pub loop-i-preserved : goal.loop-i-preserved
loop-i-preserved c = let a = c.args in
    let w = c.loop-i in
    let e = c.u8_at-n.ensures in
    omega (arith, largest_on (assemblies_of a.r.now) a.r.now w.i w.most (omega arith) _ c.instance_at.ensures, w.invariant)

pub returns : goal.returns
returns c = let a = c.args in
    let w = c.loop-i in
    let e = c.u8_at-n.ensures in
    largest_ends (assemblies_of a.r.now) a.r.now w.i w.most (omega arith) ∙ w.invariant
