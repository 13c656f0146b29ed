-- The class answers for instance 0; else the place that was found is the rules' place, and what stands there answers.
use Rattle.std.proofs.Common.{arith}
use Rattle.std.proofs.lemmas.Bool.Decides.{nat_tests}
use Rattle.rules.specs.Objects.{assembly}
use Rattle.state_image.specs.Holds.{setup_ready}
use Rattle.state_places.specs.PlaceLaws.{found_in}
use Rattle.msg_attributes.specs.Told.{told}
use Rattle.msg_assembly.specs.Instances.{class_table, has_instance, found_is}
use Rattle.msg_assembly.proofs.assembly.Goals as goal

pub class-requires : goal.class-requires
class-requires c = let q = setup_ready c.args.s.now c.requires.0.ready in (q.0, q.1, omega arith)

pub returns-then-instance-eq0 : goal.returns-then-instance-eq0
unfolding assembly told
returns-then-instance-eq0 c = let t = class_table c.args.s.now in grind (arith, nat_tests)

pub find-requires : goal.find-requires
find-requires c = setup_ready c.args.s.now c.requires.0.ready

pub here-requires : goal.here-requires
here-requires c = (c.requires.0, found_in c.args.s.now (has_instance c.args.instance) _ c.find.ensures _ c.in_ok-i.ensures.ok_part, omega arith)

pub returns-in_err-i : goal.returns-in_err-i
unfolding assembly told
returns-in_err-i c = let place = found_is c.args.s.now c.args.instance c.find.result c.find.ensures in grind (arith, nat_tests)

pub returns : goal.returns
unfolding assembly told
returns c = let place = found_is c.args.s.now c.args.instance c.find.result c.find.ensures in grind (arith, nat_tests)
