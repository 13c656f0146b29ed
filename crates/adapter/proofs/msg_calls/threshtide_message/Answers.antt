use Rattle.std.proofs.Common.{ℕ, ◌*◌, ◌^◌, ◌≡◌, ap, sym, ◌∙◌, arith}
use Rattle.app_answers.specs.Ways.{passed_tested}
use Rattle.msg_answering.specs.Positions.{whole_tested}
use Rattle.msg_answering.specs.Lifted.{message_untested, message_misplaced, message_short, message_replied}
use Rattle.adapter.proofs.msg_calls.threshtide_message.Goals as goal

-- the length stands from bit 8 on
shifted : {B : Type 0} (n : ℕ) (b : B) (x : ℕ × B) → (2 ^ 8 * n, b) ≡ x → (n * 256, b) ≡ x
shifted n b x e = ap (λ (m : ℕ). (m, b)) (let z : n * 256 ≡ 2 ^ 8 * n = omega arith in z) ∙ e

pub returns-then-not-test_state : goal.returns-then-not-test_state
returns-then-not-test_state c = let a = c.args in
    message_untested a.local a.mask a.message.now a.state.now a.upload.now a.out.now (sym c.test_state.ensures ∙ c.if-not-test_state.true)

pub position_tested-requires : goal.position_tested-requires
position_tested-requires c = passed_tested c.args.state.now (sym c.test_state.ensures ∙ c.if-not-test_state.false)

pub returns-then-not-position_tested : goal.returns-then-not-position_tested
returns-then-not-position_tested c = let a = c.args in
    message_misplaced a.local a.mask a.message.now a.state.now a.upload.now a.out.now (sym c.test_state.ensures ∙ c.if-not-test_state.false)
    (sym c.position_tested.ensures ∙ c.if-not-position_tested.true)

pub returns-then-out-lt516 : goal.returns-then-out-lt516
returns-then-out-lt516 c = let a = c.args in
    let t = sym c.test_state.ensures ∙ c.if-not-test_state.false in
    let p = sym c.position_tested.ensures ∙ c.if-not-position_tested.false in
    message_short a.local a.mask a.message.now a.state.now a.upload.now a.out.now t p c.if-out-lt516.true
    (whole_tested a.state.now a.upload.now t (λ j. omega (arith, c.slice_known-1.given j)) p).again

pub message-requires : goal.message-requires
message-requires c = let t = sym c.test_state.ensures ∙ c.if-not-test_state.false in
    (passed_tested c.args.state.now t, sym c.position_tested.ensures ∙ c.if-not-position_tested.false, omega arith)

pub returns : goal.returns
returns c = let a = c.args in
    let t = sym c.test_state.ensures ∙ c.if-not-test_state.false in
    let p = sym c.position_tested.ensures ∙ c.if-not-position_tested.false in
    shifted _ _ _ (message_replied a.local a.mask a.message.now a.state.now a.upload.now a.out.now t p c.if-out-lt516.false _ _ _ c.message.ensures.0)
