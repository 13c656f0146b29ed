use Rattle.std.proofs.Common.{ap, arith}
use Rattle.rules.specs.Answers.{outcome_number}
use Rattle.app_answers.proofs.answers.number.Goals as goal

pub returns-in-Ok : goal.returns-in-Ok
returns-in-Ok c = let e = ap outcome_number c.in-Ok.is in omega arith
