use Rattle.std.proofs.Common.{◌∙◌, arith}
use Rattle.std.proofs.lemmas.Grind.{common_steps}
use Rattle.rules.specs.Answers.{answer_number}
use Rattle.rules.specs.Routing.{path_answer}
use Rattle.msg_routing.specs.Answered.{answered}
use Rattle.msg_routing.specs.Bounds.{path_bounds}
use Rattle.msg_routing.specs.Told.{path_told_lem}
use Rattle.msg_routing.proofs.tell_path.Goals as goal

pub put_path-requires : goal.put_path-requires
put_path-requires c = path_bounds c.args.path.now c.in_ok-p.p (grind (arith, common_steps))

pub returns : goal.returns
returns c = c.put_path.ensures ∙ path_told_lem _ _ _ (grind (arith, common_steps))

pub returns-in_err-p : goal.returns-in_err-p
unfolding answered path_answer answer_number
returns-in_err-p c = grind (arith, common_steps)
