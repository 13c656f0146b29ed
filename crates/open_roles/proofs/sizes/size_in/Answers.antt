use Rattle.std.proofs.Common.{◌<◌, ◌≤◌, ap, sym, ◌∙◌, arith}
use Rattle.std.proofs.Math.ListN.{get_or-eq_default}
use Rattle.rules.specs.State.{Shape, no_shape}
use Rattle.state_rules.specs.Setups.{shape_in, shapes_of}
use Rattle.state_rules.specs.SetupLaws.{length_shapes, shape_of_lem, shape_short}
use Rattle.state_rules.specs.Places.{assemblies_of}
use Rattle.open_roles.proofs.sizes.size_in.Goals as goal

pub returns-then-i-u8_at : goal.returns-then-i-u8_at
returns-then-i-u8_at c =
    let r = c.args.r.now in
    let i = c.args.i in
    let g : i < assemblies_of r = omega arith in
    let s : (shape_in r i).size ≤ 512 = shape_short r c.requires.2 i (omega arith) in
    (c.size_at.ensures ∙ ap (λ (a : Shape). a.size) (sym (shape_of_lem r i no_shape g)), omega arith)

pub returns-else-i-u8_at : goal.returns-else-i-u8_at
returns-else-i-u8_at c =
    let r = c.args.r.now in
    let e = length_shapes r in
    (ap (λ (a : Shape). a.size) (sym (get_or-eq_default (shapes_of r) no_shape {n = c.args.i} (omega arith))), omega arith)
