use Rattle.std.proofs.Common.{◌≡◌, sym, ◌∙◌, arith, rules}
use Rattle.rules.specs.State.{no_shape}
use Rattle.rules.specs.Checks.{is_at}
use Rattle.rules.specs.Host.{kind_test}
use Rattle.state_rules.specs.Places.{assemblies_of}
use Rattle.state_rules.specs.Setups.{shape_in, shapes_of}
use Rattle.state_rules.specs.SetupLaws.{length_shapes, shape_of_lem}
use Rattle.state_searches.specs.Ranges.{found}
use Rattle.state_places.proofs.find.Goals as goal

pub returns : goal.returns
returns c = let a = c.args in
    let r = a.r.now in
    let e : c.from-n.result ≡ assemblies_of r = c.from-n.ensures ∙ c.u8_at.ensures in
    found (is_at (kind_test a.kind) a.instance) no_shape (shapes_of r) (shape_in r) c.from-n.result (length_shapes r ∙ sym e)
    (λ k h. shape_of_lem r k no_shape (omega arith)) _ _ _ c.find.ensures.ran (λ v b y k. search rules)
