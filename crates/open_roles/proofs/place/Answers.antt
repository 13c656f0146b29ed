use Rattle.std.proofs.Common.{sym, arith}
use Rattle.rules.specs.State.{no_shape}
use Rattle.rules.specs.Host.{kind_test}
use Rattle.rules.specs.Checks.{is_at}
use Rattle.state_rules.specs.Setups.{shapes_of}
use Rattle.state_rules.specs.SetupLaws.{length_shapes}
use Rattle.state_searches.specs.Searches.{place_in_lem}
use Rattle.open_roles.proofs.place.Goals as goal

-- a place that was found is one of the list
pub overflow_cast-result : goal.overflow_cast-result
overflow_cast-result c =
    let a = c.args in
    let n = length_shapes a.r.now in
    let h = place_in_lem (is_at (kind_test c.number_of.result) a.point) no_shape (shapes_of a.r.now) c.in_ok-i.i (sym c.in_ok-i.ensures) in
    omega arith
