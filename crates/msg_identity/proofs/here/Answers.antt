-- The attribute of the identity object's instance, from the setup's region and the status.
use Rattle.std.proofs.Common.{arith}
use Rattle.state_image.specs.Holds.{setup_ready}
use Rattle.msg_identity.specs.Table.{name_ready}
use Rattle.msg_identity.proofs.here.Goals as goal

pub value-requires : goal.value-requires
value-requires c = ((setup_ready c.args.s.now c.requires.0.ready).0, name_ready c.args.s.now c.requires.0.test, omega arith)
