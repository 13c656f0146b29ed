use Rattle.std.proofs.Common.{arith, sym, ◌∙◌}
use Rattle.rules.specs.Removal.{close_call}
use Rattle.state_image.specs.Lift.{out_fails}
use Rattle.state_image.specs.Holds.{ready_tested}
use Rattle.conn_ending.specs.Calls.{close_unread, close_read}
use Rattle.rules.specs.Answers.{outcome_number}
use Rattle.adapter.specs.Ways.{numbered}
use Rattle.adapter.proofs.conn_calls.threshtide_close.Goals as goal

pub returns-then-not-test_state : goal.returns-then-not-test_state
returns-then-not-test_state c = let a = c.args in out_fails (close_call a.request.now) a.state.now a.out.now (sym c.test_state.ensures ∙ c.if-not-test_state.true)

pub close-requires : goal.close-requires
close-requires c = ready_tested c.args.state.now (sym c.test_state.ensures ∙ c.if-not-test_state.false)

pub returns-in-None : goal.returns-in-None
returns-in-None c = let a = c.args in
    close_unread a.request.now a.state.now a.out.now (sym c.test_state.ensures ∙ c.if-not-test_state.false) (λ i. omega (arith, c.slice_known-1.given i)) (sym c.decode_close.ensures ∙ c.in-None.is)

pub returns-in-Some : goal.returns-in-Some
returns-in-Some c = let a = c.args in
    numbered _ c.close.result _ _ c.number.ensures
    (close_read a.request.now a.state.now a.out.now (sym c.test_state.ensures ∙ c.if-not-test_state.false) (λ i. omega (arith, c.slice_known-1.given i)) c.in-Some.t (sym c.decode_close.ensures ∙ c.in-Some.is) (outcome_number c.close.result) c.close.new.s c.close.new.out c.close.ensures)
