use Rattle.std.proofs.Common.{ap, sym, ◌∙◌, arith}
use Rattle.rules.specs.Receiving.{receive_call}
use Rattle.state_rules.specs.Image.{view, store}
use Rattle.state_image.specs.Holds.{ready_tested, slotted_tested, holds_tested}
use Rattle.state_image.specs.Lift.{lifted_fails, lifted_kept, lifted_done}
use Rattle.io_receiving.specs.CallLaws.{late_number, late_state, done_number, done_state}
use Rattle.adapter.proofs.io_calls.threshtide_receive.Goals as goal

pub returns-then-not-test_state : goal.returns-then-not-test_state
returns-then-not-test_state c = let a = c.args in lifted_fails (receive_call a.time a.from a.frame.now) a.state.now (sym c.test_state.ensures ∙ c.if-not-test_state.true)

pub returns-then-time-gt9223372036854775807 : goal.returns-then-time-gt9223372036854775807
returns-then-time-gt9223372036854775807 c = let a = c.args in let s = a.state.now in let t = sym c.test_state.ensures ∙ c.if-not-test_state.false in lifted_kept (receive_call a.time a.from a.frame.now) s t (λ i. omega (arith, c.slice_known-1.given i)) 3 (late_number a.time a.from a.frame.now (view s) c.if-time-gt9223372036854775807.true) (late_state a.time a.from a.frame.now (view s) c.if-time-gt9223372036854775807.true)

pub receive-requires : goal.receive-requires
receive-requires c = let s = c.args.state.now in let t = sym c.test_state.ensures ∙ c.if-not-test_state.false in (ready_tested s t, slotted_tested s t, omega arith)

pub returns : goal.returns
returns c = let a = c.args in let s = a.state.now in let t = sym c.test_state.ensures ∙ c.if-not-test_state.false in lifted_done (receive_call a.time a.from a.frame.now) s t 0 c.receive.new.s (done_number a.time a.from a.frame.now (view s) c.if-time-gt9223372036854775807.false) (c.receive.ensures (view s) s (holds_tested s t (λ i. omega (arith, c.slice_known-1.given i))) ∙ ap (λ z. store z s) (done_state a.time a.from a.frame.now (view s) c.if-time-gt9223372036854775807.false))
