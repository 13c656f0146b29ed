use Rattle.std.proofs.Common.{sym, ◌∙◌}
use Rattle.state_image.specs.Lift.{lifted_fails}
use Rattle.app_answers.specs.Ways.{passed_tested}
use Rattle.adapter.specs.Ways.{numbered}
use Rattle.adapter.proofs.app_calls.threshtide_set_input.Goals as goal

pub returns-then-not-test_state : goal.returns-then-not-test_state
returns-then-not-test_state c = lifted_fails _ c.args.state.now (sym c.test_state.ensures ∙ c.if-not-test_state.true)

pub set_input-requires : goal.set_input-requires
set_input-requires c = passed_tested c.args.state.now (sym c.test_state.ensures ∙ c.if-not-test_state.false)

pub returns : goal.returns
returns c = numbered _ c.set_input.result _ _ c.number.ensures c.set_input.ensures
