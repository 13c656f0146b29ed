-- The state test, one test after the other; each refusal is one law, and the last test's answer is the whole test's.
use Rattle.std.proofs.Common.{sym, ◌∙◌}
use Rattle.state_image.specs.TestLaws.{state_fails0, state_fails1, state_fails2, state_last}
use Rattle.state_image.proofs.test_state.Goals as goal

pub returns-then-s-ne-STATE_SIZE : goal.returns-then-s-ne-STATE_SIZE
returns-then-s-ne-STATE_SIZE c = state_fails0 c.args.s.now c.if-s-ne-STATE_SIZE.true

pub returns-then-not-setup_good : goal.returns-then-not-setup_good
returns-then-not-setup_good c = state_fails1 c.args.s.now (sym c.setup_good.ensures ∙ c.if-not-setup_good.true)

pub returns-then-not-head_good : goal.returns-then-not-head_good
returns-then-not-head_good c = state_fails2 c.args.s.now (sym c.head_good.ensures ∙ c.if-not-head_good.true)

pub returns : goal.returns
returns c = let l = c.args.s.now in
    state_last l c.if-s-ne-STATE_SIZE.false
    (sym c.setup_good.ensures ∙ c.if-not-setup_good.false)
    (sym c.head_good.ensures ∙ c.if-not-head_good.false)
    c.shapes_good.result c.shapes_good.ensures
