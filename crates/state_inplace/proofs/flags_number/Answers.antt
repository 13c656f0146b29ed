use Rattle.std.proofs.Common.{arith}
use Rattle.state_rules.specs.RowLaws.{byte_small}
use Rattle.state_inplace.proofs.flags_number.Goals as goal

pub overflow_mul-result-2 : goal.overflow_mul-result-2
overflow_mul-result-2 c = let a = byte_small c.args.any in let b = byte_small c.args.anycip in omega arith

pub overflow_add-result : goal.overflow_add-result
overflow_add-result c = let a = byte_small c.args.any in let b = byte_small c.args.anycip in omega arith

pub overflow_add-result-2 : goal.overflow_add-result-2
overflow_add-result-2 c = let a = byte_small c.args.any in let b = byte_small c.args.anycip in omega arith
