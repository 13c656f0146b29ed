-- The places below the number of assemblies are those of the setup's list.
use Rattle.std.proofs.Common.{rules, sym, ◌∙◌, arith}
use Rattle.rules.specs.State.{no_shape}
use Rattle.state_rules.specs.Listed.{listed_at}
use Rattle.state_rules.specs.Places.{assemblies_of}
use Rattle.state_rules.specs.Setups.{shape_in, shapes_of}
use Rattle.state_rules.specs.SetupLaws.{length_shapes}
use Rattle.state_searches.specs.Ranges.{found}
use Rattle.msg_assembly.specs.Instances.{has_instance}
use Rattle.msg_assembly.proofs.find.Goals as goal

pub returns : goal.returns
returns c = let a = c.args in let e = c.u8_at-n.ensures in
    found (has_instance a.instance) no_shape (shapes_of a.r.now) (shape_in a.r.now) _ (length_shapes a.r.now ∙ sym e) (λ k h. listed_at (shape_in a.r.now) (assemblies_of a.r.now) k no_shape (omega arith))
    _ _ _ c.find.ensures.ran (λ v b y k. search rules)
