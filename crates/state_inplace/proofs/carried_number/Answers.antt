-- A bit and twice a place below 32 stay below 64.
use Rattle.std.proofs.Common.{arith}
use Rattle.state_rules.specs.RowLaws.{byte_small}
use Rattle.state_inplace.proofs.carried_number.Goals as goal

pub overflow_add-result : goal.overflow_add-result
overflow_add-result c = let a = byte_small c.args.multicast in omega arith
