use Rattle.std.proofs.Common.{arith}
use Rattle.msg_routing.specs.Told.{path_none, path_all}
use Rattle.msg_routing.proofs.put_path.Goals as goal

pub returns-then-out-lt32 : goal.returns-then-out-lt32
returns-then-out-lt32 c = path_none _ _ (omega arith)

pub returns : goal.returns
returns c = path_all _ _ _ (omega arith) (cc)
