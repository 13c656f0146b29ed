-- The kinds of contract that the C functions have: what each says of the state's bytes and of what the host is answered, and what the
-- rules say to the same.
use Rattle.std.specs.Prelude.{ℕ, true, false, cond, List, ◌≡◌, length}
use Rattle.std.proofs.lemmas.List.Edits.{sets}
use Rattle.rules.specs.State.{State}
use Rattle.rules.specs.Answers.{Answer, Done, Refused, answer_number, answer_bytes}
use Rattle.rules.specs.Setup.{fresh}
use Rattle.rules.specs.Message.{message_call}
use Rattle.msg_routing.specs.Answered.{answered}
use Rattle.state_image.specs.Lift.{lifted, lifted_out, lifted_read}
use Rattle.app_starting.specs.Block.{setup_given, accepted, setup_call}
use Rattle.msg_positions.specs.Positions.{dec_upload, enc_upload}
use Rattle.msg_answering.specs.Positions.{position_tested}
use Rattle.msg_answering.specs.Lifted.{lifted_message}
use Rattle.rules.specs.declared.No.TheVariants.{BadSetup}

-- what a host is answered: the number, and what stands afterwards in the output and in the upload position that it lent
pub record Said : Type 0 where
  pub number : ℕ
  pub output : List ℕ
  pub position : List ℕ

abbrev pub saying : ℕ → List ℕ → List ℕ → Said
saying r out upload = record { number = r; output = out; position = upload }

-- a call by the kind of its contract, with what is lent beside the state: it sets up; it changes the state; it changes it and writes;
-- it only reads the state; it is lent no state; it is a message
pub data Contract : Type 0 where
  Sets : (block eds : List ℕ) (seed : ℕ) → Contract
  Changes : (call : State → Answer × State) → Contract
  Writes : (call : ℕ → State → Answer × State) (out : List ℕ) → Contract
  Reads : (call : ℕ → State → Answer) (out : List ℕ) → Contract
  Says : (call : ℕ → Answer) (out : List ℕ) → Contract
  Replies : (local mask : ℕ) (message upload out : List ℕ) → Contract

-- the contract, as the C functions' sources state it: the bytes `s` were found, the bytes `s'` left; bytes that are lent to be read stay
abbrev pub Met : Contract → List ℕ → List ℕ → Said → Type 0
Met (Sets block eds seed) s s' a = (a.number, s') ≡ setup_call s block eds seed
Met (Changes call) s s' a = (a.number, s') ≡ lifted call s
Met (Writes call out) s s' a = (a.number, (s', a.output)) ≡ lifted_out call s out
Met (Reads call out) s s' a = ((a.number, a.output) ≡ lifted_read call s out) × (s' ≡ s)
Met (Says call out) s s' a = ((a.number, a.output) ≡ answered call out) × (s' ≡ s)
Met (Replies local mask message upload out) s s' a =
    ((a.number, (a.position, a.output)) ≡ lifted_message local mask message s upload out) × (s' ≡ s)

-- ---- the rules, on a state that is set up

-- a setup that is accepted begins anew, one that is refused leaves what there was
abbrev pub next_by : Contract → State → State
next_by (Sets block eds seed) st = cond (accepted block eds) (fresh (setup_given block eds) seed) st
next_by (Changes call) st = (call st).1
next_by (Writes call out) st = (call (length out) st).1
next_by (Reads call out) st = st
next_by (Says call out) st = st
next_by (Replies local mask message upload out) st = st

abbrev pub answer_by : Contract → State → Answer
answer_by (Sets block eds seed) st = cond (accepted block eds) Done (Refused BadSetup)
answer_by (Changes call) st = (call st).0
answer_by (Writes call out) st = (call (length out) st).0
answer_by (Reads call out) st = call (length out) st
answer_by (Says call out) st = call (length out)
answer_by (Replies local mask message upload out) st = (message_call local mask message (length out) st (dec_upload upload)).0

-- an answer's number, and its bytes at the start of the output that was lent
abbrev pub Told : Answer → List ℕ → Said → Type 0
Told x out a = (a.number ≡ answer_number x) × (a.output ≡ sets out 0 (answer_bytes x))

-- what was answered is the answer `x`. No. 1 is no answer of the rules: a message gets it whose lent position fails its own test
abbrev pub Answers : Contract → State → Answer → Said → Type 0
Answers (Sets block eds seed) st x a = a.number ≡ answer_number x
Answers (Changes call) st x a = a.number ≡ answer_number x
Answers (Writes call out) st x a = Told x out a
Answers (Reads call out) st x a = Told x out a
Answers (Says call out) st x a = Told x out a
Answers (Replies local mask message upload out) st x a =
    (position_tested st.setup upload ≡ true → Told x out a × (a.position ≡ enc_upload (message_call local mask message (length out) st (dec_upload upload)).1))
    × (position_tested st.setup upload ≡ false → (a.number ≡ 1) × (a.output ≡ out) × (a.position ≡ upload))
