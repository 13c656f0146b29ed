-- The public calls on a state that is set up, and runs of them. A time is in microseconds, `room` the length of the lent output.
use Rattle.std.specs.Prelude.{List, [], ◌∷◌, ℕ, Option}
use Rattle.rules.specs.declared.objects.Position.{Position}
use Rattle.rules.specs.State.{Origin, State}
use Rattle.rules.specs.Answers.{Answer}
use Rattle.rules.specs.Opening.{open_call, refusal_answer}
use Rattle.rules.specs.Removal.{close_call, expire_call, deadline_answer}
use Rattle.rules.specs.Receiving.{receive_call}
use Rattle.rules.specs.Producing.{produce_call}
use Rattle.rules.specs.Message.{message_answer}
use Rattle.rules.specs.Host.{set_input_call, output_call, assembly_answer, next_event_call, connections_answer, stats_answer}

pub data Call : Type 0 where
  Open : (time service : ℕ) (request : List ℕ) (origin : Origin) (room : ℕ) → Call
  OpenRefusal : (service : ℕ) (request : List ℕ) (room : ℕ) → Call
  Close : (request : List ℕ) (room : ℕ) → Call
  Receive : (time from : ℕ) (frame : List ℕ) → Call
  Produce : (time room : ℕ) → Call
  Expire : (time : ℕ) → Call
  Deadline : (room : ℕ) → Call
  SetInput : (instance : ℕ) (bytes : List ℕ) → Call
  ReadOutput : (instance room : ℕ) → Call
  ReadAssembly : (kind instance room : ℕ) → Call
  NextEvent : (room : ℕ) → Call
  Connections : (room : ℕ) → Call
  Stats : (room : ℕ) → Call
  Message : (local mask : ℕ) (message : List ℕ) (room : ℕ) (position : Option Position) → Call

-- what a call answers
abbrev pub answer : Call → State → Answer
answer (Open t service request g room) st = (open_call t service request g room st).0
answer (OpenRefusal service request room) st = refusal_answer service request room
answer (Close request room) st = (close_call request room st).0
answer (Receive t from frame) st = (receive_call t from frame st).0
answer (Produce t room) st = (produce_call t room st).0
answer (Expire t) st = (expire_call t st).0
answer (Deadline room) st = deadline_answer room st
answer (SetInput n bytes) st = (set_input_call n bytes st).0
answer (ReadOutput n room) st = (output_call n room st).0
answer (ReadAssembly kind n room) st = assembly_answer kind n room st
answer (NextEvent room) st = (next_event_call room st).0
answer (Connections room) st = connections_answer room st
answer (Stats room) st = stats_answer room st
answer (Message local mask message room position) st = message_answer local mask message room st position

-- 12.13: the state that a call leaves; a message changes the session's upload position only
abbrev pub next : Call → State → State
next (Open t service request g room) st = (open_call t service request g room st).1
next (OpenRefusal service request room) st = st
next (Close request room) st = (close_call request room st).1
next (Receive t from frame) st = (receive_call t from frame st).1
next (Produce t room) st = (produce_call t room st).1
next (Expire t) st = (expire_call t st).1
next (Deadline room) st = st
next (SetInput n bytes) st = (set_input_call n bytes st).1
next (ReadOutput n room) st = (output_call n room st).1
next (ReadAssembly kind n room) st = st
next (NextEvent room) st = (next_event_call room st).1
next (Connections room) st = st
next (Stats room) st = st
next (Message local mask message room position) st = st

-- a day's calls, one after the other
abbrev pub run : List Call → State → State
run [] st = st
run (c ∷ cs) st = run cs (next c st)
