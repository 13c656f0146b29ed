use Rattle.std.proofs.Common.{arith, sym, ◌∙◌}
use Rattle.rules.specs.Opening.{open_call}
use Rattle.state_image.specs.Lift.{out_fails}
use Rattle.open_answering.specs.Calls.{open_inside, open_late, open_unread, open_read}
use Rattle.adapter.specs.Origins.{origin_of}
use Rattle.adapter.proofs.open_calls.threshtide_open.Goals as goal

pub returns-then-not-test_state : goal.returns-then-not-test_state
returns-then-not-test_state c = let a = c.args in
    let g = origin_of a.peer a.local a.mask a.given a.address a.port a.ioport in
    out_fails (open_call a.time a.service a.request.now g) a.state.now a.out.now (sym c.test_state.ensures ∙ c.if-not-test_state.true)

pub returns-then-time-gt9223372036854775807 : goal.returns-then-time-gt9223372036854775807
returns-then-time-gt9223372036854775807 c = let a = c.args in
    let g = origin_of a.peer a.local a.mask a.given a.address a.port a.ioport in
    open_late a.time a.service a.request.now g a.state.now a.out.now (sym c.test_state.ensures ∙ c.if-not-test_state.false) (λ i. omega (arith, c.slice_known-1.given i)) c.if-time-gt9223372036854775807.true

pub open_request-requires : goal.open_request-requires
open_request-requires c = let a = c.args in (
  sym c.test_state.ensures ∙ c.if-not-test_state.false,
  let h = c.if-time-gt9223372036854775807.false in omega (arith, h),
  open_inside a.service a.request.now c.in-Some.o (sym c.request_of.ensures ∙ c.in-Some.is),
)

pub returns-in-None : goal.returns-in-None
returns-in-None c = let a = c.args in
    let g = origin_of a.peer a.local a.mask a.given a.address a.port a.ioport in
    open_unread a.time a.service a.request.now g a.state.now a.out.now c.if-time-gt9223372036854775807.false (sym c.test_state.ensures ∙ c.if-not-test_state.false) (λ i. omega (arith, c.slice_known-1.given i)) (sym c.request_of.ensures ∙ c.in-None.is)

pub returns-in-Some : goal.returns-in-Some
returns-in-Some c = let a = c.args in
    let g = origin_of a.peer a.local a.mask a.given a.address a.port a.ioport in
    open_read a.time a.service a.request.now g a.state.now a.out.now c.if-time-gt9223372036854775807.false c.in-Some.o (sym c.request_of.ensures ∙ c.in-Some.is) c.open_request.result c.open_request.new.s c.open_request.new.out (rw c.then_some.ensures at c.open_request.ensures)
