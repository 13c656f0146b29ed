-- The place that was found is the rules' place: none is No. 6, else the input there is filled.
use Rattle.std.proofs.Common.{arith}
use Rattle.rules.specs.Checks.{is_at}
use Rattle.rules.specs.Host.{kind_test}
use Rattle.state_image.specs.Holds.{setup_ready}
use Rattle.state_places.specs.PlaceLaws.{found_as, found_in}
use Rattle.app_inputs.specs.Inputs.{input_none, input_some}
use Rattle.app_inputs.proofs.set_input.Goals as goal

pub find-requires : goal.find-requires
find-requires c = setup_ready c.args.s.now c.requires.ready

pub fill_input-requires : goal.fill_input-requires
fill_input-requires c = let a = c.args in
    (c.requires, found_in a.s.now (is_at (kind_test c.number_of-input.result) a.instance) c.find.result c.find.ensures _ c.in-Some.is)

pub returns-in_default : goal.returns-in_default
returns-in_default c = let a = c.args in
    let r = c.find in
    input_none a.s.now a.d.now c.requires.test a.instance r.result (found_as a.s.now _ 1 a.instance r.result c.number_of-input.ensures r.ensures)
    (λ j. omega (arith, c.slice_known-1.given j)) (c.in_default.is)

pub returns : goal.returns
returns c = let a = c.args in
    let r = c.find in
    input_some a.s.now a.d.now c.requires.test a.instance r.result (found_as a.s.now _ 1 a.instance r.result c.number_of-input.ensures r.ensures) _
    (c.in-Some.is) _ c.fill_input.ensures
