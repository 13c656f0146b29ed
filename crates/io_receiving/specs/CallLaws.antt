-- The call's two answers to a tested state: No. 3, and done.
use Rattle.std.specs.Prelude.{ℕ, ◌≤◌, ◌<◌, List, ◌≡◌}
use Rattle.std.proofs.Common.{ap, ◌∙◌, le-leb}
use Rattle.std.proofs.Math.Path.{sym}
use Rattle.std.proofs.lemmas.Bool.{lt-leb}
use Rattle.rules.specs.State.{State}
use Rattle.rules.specs.Answers.{Answer, Done, Refused, answer_number}
use Rattle.rules.specs.Receiving.{receive_answer, receive_effect, receive_call}
use Rattle.rules.specs.declared.No.TheVariants.{BadTime}

module _ (t from : ℕ) (bytes : List ℕ) (st : State) where
  late : 9223372036854775807 < t → receive_call t from bytes st ≡ (Refused BadTime, st)
  unfolding receive_call receive_answer
  late h = rw (lt-leb t 9223372036854775807 h)

  timely : t ≤ 9223372036854775807 → receive_call t from bytes st ≡ (Done, receive_effect t from bytes st)
  unfolding receive_call receive_answer
  timely h = rw (le-leb t 9223372036854775807 h)

  pub late_number : 9223372036854775807 < t → 3 ≡ answer_number (receive_call t from bytes st).0
  unfolding answer_number
  late_number h = sym (ap (λ (z : Answer × State). answer_number z.0) (late h))

  pub late_state : 9223372036854775807 < t → (receive_call t from bytes st).1 ≡ st
  late_state h = ap (λ (z : Answer × State). z.1) (late h)

  pub done_number : t ≤ 9223372036854775807 → 0 ≡ answer_number (receive_call t from bytes st).0
  unfolding answer_number
  done_number h = sym (ap (λ (z : Answer × State). answer_number z.0) (timely h))

  pub done_state : t ≤ 9223372036854775807 → receive_effect t from bytes st ≡ (receive_call t from bytes st).1
  done_state h = sym (ap (λ (z : Answer × State). z.1) (timely h))
