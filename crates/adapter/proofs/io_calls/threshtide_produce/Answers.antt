use Rattle.std.proofs.Common.{sym, ◌∙◌, arith, length}
use Rattle.rules.specs.Producing.{produce_call}
use Rattle.state_rules.specs.Image.{view}
use Rattle.state_image.specs.Holds.{ready_tested, slotted_tested, holds_tested}
use Rattle.state_image.specs.Lift.{out_fails, out_kept, out_done}
use Rattle.io_producing.specs.CallLaws.{late_number, late_state, late_bytes}
use Rattle.rules.specs.Answers.{outcome_number}
use Rattle.adapter.specs.Ways.{numbered}
use Rattle.adapter.proofs.io_calls.threshtide_produce.Goals as goal

pub returns-then-not-test_state : goal.returns-then-not-test_state
returns-then-not-test_state c = let a = c.args in out_fails (produce_call a.time) a.state.now a.out.now (sym c.test_state.ensures ∙ c.if-not-test_state.true)

pub returns-then-time-gt9223372036854775807 : goal.returns-then-time-gt9223372036854775807
returns-then-time-gt9223372036854775807 c = let a = c.args in
    let s = a.state.now in
    let n = length a.out.now in
    let t = sym c.test_state.ensures ∙ c.if-not-test_state.false in
    out_kept (produce_call a.time) s a.out.now t (λ i. omega (arith, c.slice_known-1.given i)) 3
    (late_number a.time n (view s) c.if-time-gt9223372036854775807.true) (late_state a.time n (view s) c.if-time-gt9223372036854775807.true) (late_bytes a.time n (view s) c.if-time-gt9223372036854775807.true)

pub produce-requires : goal.produce-requires
produce-requires c = let s = c.args.state.now in
    let t = sym c.test_state.ensures ∙ c.if-not-test_state.false in
    (ready_tested s t, slotted_tested s t, omega arith)

pub returns : goal.returns
returns c = let a = c.args in
    let s = a.state.now in
    let t = sym c.test_state.ensures ∙ c.if-not-test_state.false in
    let d = c.produce in
    let y = d.ensures (view s) s (holds_tested s t (λ i. omega (arith, c.slice_known-1.given i))) in
    numbered _ d.result _ _ c.number.ensures (out_done (produce_call a.time) s a.out.now t (outcome_number d.result) d.new.s d.new.out y.number y.is y.out)
