-- The place that was found is the rules' place: none is No. 6, else its bytes are copied out.
use Rattle.rules.specs.Checks.{is_at}
use Rattle.rules.specs.Host.{kind_test}
use Rattle.state_image.specs.Holds.{setup_ready}
use Rattle.state_places.specs.PlaceLaws.{found_is, found_in}
use Rattle.app_outputs.specs.Outputs.{assembly_none, assembly_some}
use Rattle.app_outputs.proofs.assembly.Goals as goal

pub find-requires : goal.find-requires
find-requires c = setup_ready c.args.s.now c.requires.ready

pub copy_assembly-requires : goal.copy_assembly-requires
copy_assembly-requires c = let a = c.args in
    (c.requires, found_in a.s.now (is_at (kind_test a.kind) a.instance) c.find.result c.find.ensures _ c.in-Some.is)

pub returns-in_default : goal.returns-in_default
returns-in_default c = let a = c.args in
    let r = c.find in
    assembly_none a.s.now a.out.now c.requires.test a.kind a.instance r.result (found_is a.s.now a.kind a.instance r.result r.ensures) c.in_default.is

pub returns : goal.returns
returns c = let a = c.args in
    let r = c.find in
    assembly_some a.s.now a.out.now c.requires.test a.kind a.instance r.result (found_is a.s.now a.kind a.instance r.result r.ensures) _
    c.in-Some.is _ c.copy_assembly.ensures
