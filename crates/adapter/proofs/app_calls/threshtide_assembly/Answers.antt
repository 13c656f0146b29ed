use Rattle.std.proofs.Common.{sym, ◌∙◌}
use Rattle.state_image.specs.Lift.{read_fails}
use Rattle.app_answers.specs.Ways.{passed_tested}
use Rattle.adapter.specs.Ways.{numbered}
use Rattle.adapter.proofs.app_calls.threshtide_assembly.Goals as goal

pub returns-then-not-test_state : goal.returns-then-not-test_state
returns-then-not-test_state c = read_fails _ c.args.state.now c.args.out.now (sym c.test_state.ensures ∙ c.if-not-test_state.true)

pub assembly-requires : goal.assembly-requires
assembly-requires c = passed_tested c.args.state.now (sym c.test_state.ensures ∙ c.if-not-test_state.false)

pub returns : goal.returns
returns c = numbered _ c.assembly.result _ _ c.number.ensures c.assembly.ensures
