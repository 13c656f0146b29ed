-- One call: from bytes that pass the state test it leaves bytes that pass it and say what the rules' call leaves, and it answers what the
-- rules answer: what that says, and a line for each call. That each call does so is proved in proofs/Steps.antt.
use Prim.Native.Nat.{ℕ}
use Rattle.std.specs.Prelude.{true, ◌≡◌, refl, length}
use mathlib.Core.List.{List}
use Rattle.std.proofs.lemmas.List.Edits.{sets}
use Rattle.rules.specs.State.{State}
use Rattle.rules.specs.Answers.{Answer, answer_number, answer_bytes}
use Rattle.rules.specs.Message.{message_call}
use Rattle.rules.specs.Calls.{answer, next}
use Rattle.state_rules.specs.Image.{view, store, tested}
use Rattle.state_image.specs.Fits.{Suits}
use Rattle.state_image.specs.ViewLaws.{suits_view}
use Rattle.state_image.specs.Lift.{lifted_out, lifted_read}
use Rattle.app_answers.specs.Left.{input_suits, output_suits, event_suits}
use Rattle.io_receiving.specs.Accepted.{receive_suits}
use Rattle.io_producing.specs.Accepted.{produce_suits}
use Rattle.conn_ending.specs.Accepted.{close_suits, expire_suits}
use Rattle.open_answering.specs.Accepted.{open_suits}
use Rattle.adapter.specs.Origins.{origin_of}
use Rattle.host_runs.specs.CallContracts.{Said, next_by, answer_by, Answers}
use Rattle.host_runs.specs.HostCalls.{HostCall, contract_of, call_of, CCall, contract, next_c, answer_c}

-- ---- where the state test passes

module _ (s : List ℕ) (ok : tested s ≡ true) where
  pub out_passes : (call : ℕ → State → Answer × State) (out : List ℕ)
      → lifted_out call s out ≡ (answer_number (call (length out) (view s)).0, (store (call (length out) (view s)).1 s, sets out 0 (answer_bytes (call (length out) (view s)).0)))
  unfolding lifted_out
  out_passes call out = rw ok

  pub read_passes : (call : ℕ → State → Answer) (out : List ℕ)
      → lifted_read call s out ≡ (answer_number (call (length out) (view s)), sets out 0 (answer_bytes (call (length out) (view s))))
  unfolding lifted_read
  read_passes call out = rw ok

-- ---- each call

-- its contract is the rules' call: the state that it leaves, and the answer
pub same_next : (c : HostCall) (st : State) → next_by (contract_of c) st ≡ next (call_of c) st
same_next (HostCall.SetInput instance bytes) st = refl
same_next (HostCall.Output instance out) st = refl
same_next (HostCall.Assembly kind instance out) st = refl
same_next (HostCall.NextEvent out) st = refl
same_next (HostCall.Connections out) st = refl
same_next (HostCall.Stats out) st = refl
same_next (HostCall.Open time service request peer local mask given address port ioport out) st = refl
same_next (HostCall.OpenRefusal service request out) st = refl
same_next (HostCall.Close request out) st = refl
same_next (HostCall.Receive time from frame) st = refl
same_next (HostCall.Produce time out) st = refl
same_next (HostCall.Expire time) st = refl
same_next (HostCall.NextDeadline out) st = refl
same_next (HostCall.Message local mask message upload out) st = refl

pub same_answer : (c : HostCall) (st : State) → answer_by (contract_of c) st ≡ answer (call_of c) st
unfolding message_call
same_answer (HostCall.SetInput instance bytes) st = refl
same_answer (HostCall.Output instance out) st = refl
same_answer (HostCall.Assembly kind instance out) st = refl
same_answer (HostCall.NextEvent out) st = refl
same_answer (HostCall.Connections out) st = refl
same_answer (HostCall.Stats out) st = refl
same_answer (HostCall.Open time service request peer local mask given address port ioport out) st = refl
same_answer (HostCall.OpenRefusal service request out) st = refl
same_answer (HostCall.Close request out) st = refl
same_answer (HostCall.Receive time from frame) st = refl
same_answer (HostCall.Produce time out) st = refl
same_answer (HostCall.Expire time) st = refl
same_answer (HostCall.NextDeadline out) st = refl
same_answer (HostCall.Message local mask message upload out) st = refl

-- what it leaves can be written over the bytes that it found
module _ (s : List ℕ) (ok : tested s ≡ true) where
  pub suits : (c : HostCall) → Suits (next_by (contract_of c) (view s)) s
  suits (HostCall.SetInput instance bytes) = input_suits s ok instance bytes
  suits (HostCall.Output instance out) = output_suits s ok instance (length out)
  suits (HostCall.Assembly kind instance out) = suits_view s ok
  suits (HostCall.NextEvent out) = event_suits s ok (length out)
  suits (HostCall.Connections out) = suits_view s ok
  suits (HostCall.Stats out) = suits_view s ok
  suits (HostCall.Open time service request peer local mask given address port ioport out) =
      open_suits s ok time service request (origin_of peer local mask given address port ioport) (length out)
  suits (HostCall.OpenRefusal service request out) = suits_view s ok
  suits (HostCall.Close request out) = close_suits s ok request (length out)
  suits (HostCall.Receive time from frame) = receive_suits s ok time from frame
  suits (HostCall.Produce time out) = produce_suits s ok time (length out)
  suits (HostCall.Expire time) = expire_suits s ok time
  suits (HostCall.NextDeadline out) = suits_view s ok
  suits (HostCall.Message local mask message upload out) = suits_view s ok

-- THE STEP: bytes that pass the state test are left that pass it and say what the rules leave, and the answer is the rules'
pub record Agrees (c : CCall) (st : State) (s' : List ℕ) (a : Said) : Type 0 where
  pub passes : tested s' ≡ true
  pub holds : view s' ≡ next_c c st
  pub answers : Answers (contract c) st (answer_c c st) a
