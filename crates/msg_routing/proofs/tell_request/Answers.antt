use Rattle.std.proofs.Common.{◌∙◌, arith}
use Rattle.std.proofs.lemmas.Grind.{common_steps}
use Rattle.rules.specs.Answers.{answer_number}
use Rattle.rules.specs.Routing.{request_answer}
use Rattle.msg_routing.specs.Answered.{answered}
use Rattle.msg_routing.specs.Bounds.{request_bounds}
use Rattle.msg_routing.specs.Told.{request_told_lem}
use Rattle.msg_routing.proofs.tell_request.Goals as goal

pub put_request-requires : goal.put_request-requires
put_request-requires c = request_bounds c.args.message.now c.in_ok-q.q (grind (arith, common_steps))

pub returns : goal.returns
returns c = c.put_request.ensures ∙ request_told_lem _ _ _ (grind (arith, common_steps))

pub returns-in_err-q : goal.returns-in_err-q
unfolding answered request_answer answer_number
returns-in_err-q c = grind (arith, common_steps)
