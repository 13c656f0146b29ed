use Rattle.std.proofs.Common.{arith}
use Rattle.io_receiving.specs.DecisionLaws.{timeout_small}
use Rattle.io_receiving.proofs.lives_until.Goals as goal

pub overflow_add-result : goal.overflow_add-result
overflow_add-result c = let b = timeout_small c.args.rpi c.args.multiplier (omega arith) in let e = c.timeout.ensures in omega arith
