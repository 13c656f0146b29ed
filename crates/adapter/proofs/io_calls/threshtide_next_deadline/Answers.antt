use Rattle.std.proofs.Common.{sym, ◌∙◌, arith}
use Rattle.rules.specs.Removal.{deadline_answer}
use Rattle.state_rules.specs.Image.{view}
use Rattle.state_image.specs.Holds.{ready_tested, holds_tested}
use Rattle.state_image.specs.Lift.{read_fails, read_done}
use Rattle.rules.specs.Answers.{outcome_number}
use Rattle.adapter.specs.Ways.{numbered}
use Rattle.adapter.proofs.io_calls.threshtide_next_deadline.Goals as goal

pub returns-then-not-test_state : goal.returns-then-not-test_state
returns-then-not-test_state c = read_fails deadline_answer c.args.state.now c.args.out.now (sym c.test_state.ensures ∙ c.if-not-test_state.true)

pub next_deadline-requires : goal.next_deadline-requires
next_deadline-requires c = ready_tested c.args.state.now (sym c.test_state.ensures ∙ c.if-not-test_state.false)

pub returns : goal.returns
returns c = let s = c.args.state.now in let t = sym c.test_state.ensures ∙ c.if-not-test_state.false in let w = c.next_deadline.ensures (view s) s (holds_tested s t (λ i. omega (arith, c.shared_slice_known-1.given i))) in numbered _ c.next_deadline.result _ _ c.number.ensures (read_done deadline_answer s c.args.out.now t (outcome_number c.next_deadline.result) c.next_deadline.new.out w.number w.bytes)
