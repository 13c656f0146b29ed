use Rattle.std.proofs.Common.{arith, sym, ◌∙◌}
use Rattle.rules.specs.Removal.{expire_call}
use Rattle.state_image.specs.Lift.{lifted_fails}
use Rattle.state_image.specs.Holds.{ready_tested}
use Rattle.conn_ending.specs.Calls.{expire_late, expire_done}
use Rattle.adapter.proofs.conn_calls.threshtide_expire.Goals as goal

pub returns-then-not-test_state : goal.returns-then-not-test_state
returns-then-not-test_state c = let a = c.args in lifted_fails (expire_call a.time) a.state.now (sym c.test_state.ensures ∙ c.if-not-test_state.true)

pub returns-then-time-gt9223372036854775807 : goal.returns-then-time-gt9223372036854775807
returns-then-time-gt9223372036854775807 c = let a = c.args in expire_late a.time a.state.now (sym c.test_state.ensures ∙ c.if-not-test_state.false) (λ i. omega (arith, c.slice_known-1.given i)) c.if-time-gt9223372036854775807.true

pub expire_all-requires : goal.expire_all-requires
expire_all-requires c = ready_tested c.args.state.now (sym c.test_state.ensures ∙ c.if-not-test_state.false)

pub returns : goal.returns
returns c = let a = c.args in
    expire_done a.time a.state.now (sym c.test_state.ensures ∙ c.if-not-test_state.false) (λ i. omega (arith, c.slice_known-1.given i)) c.if-time-gt9223372036854775807.false c.expire_all.result c.expire_all.new.s c.expire_all.ensures.1
