-- The place that was found is the rules' place: none is No. 6, else the output there is taken.
use Rattle.std.proofs.Common.{arith}
use Rattle.rules.specs.Checks.{is_at}
use Rattle.rules.specs.Host.{kind_test}
use Rattle.state_image.specs.Holds.{setup_ready}
use Rattle.state_places.specs.PlaceLaws.{found_as, found_in}
use Rattle.app_outputs.specs.Outputs.{output_none, output_some}
use Rattle.app_outputs.proofs.output.Goals as goal

pub find-requires : goal.find-requires
find-requires c = setup_ready c.args.s.now c.requires.ready

pub take_output-requires : goal.take_output-requires
take_output-requires c = let a = c.args in
    (c.requires, found_in a.s.now (is_at (kind_test c.number_of-output.result) a.instance) c.find.result c.find.ensures _ c.in-Some.is)

pub returns-in_default : goal.returns-in_default
returns-in_default c = let a = c.args in
    let r = c.find in
    output_none a.s.now a.out.now c.requires.test a.instance r.result (found_as a.s.now _ 2 a.instance r.result c.number_of-output.ensures r.ensures)
    (λ j. omega (arith, c.slice_known-1.given j)) (c.in_default.is)

pub returns : goal.returns
returns c = let a = c.args in
    let r = c.find in
    output_some a.s.now a.out.now c.requires.test a.instance r.result (found_as a.s.now _ 2 a.instance r.result c.number_of-output.ensures r.ensures) _
    (c.in-Some.is) _ c.take_output.ensures
