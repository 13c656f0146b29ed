use Rattle.state_rules.specs.Image.{view}
use Rattle.msg_answering.specs.Positions.{limit_is, same_test}
use Rattle.msg_answering.proofs.position_tested.Goals as goal

pub returns : goal.returns
returns c = let s = c.args.s.now in let l = limit_is s in let q = same_test (view s).setup c.args.position.now in cc
