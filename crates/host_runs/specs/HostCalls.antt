-- The C functions as a host calls them, each with what it passes and lends; the contract of each, and the rules' call that it is.
use Rattle.std.specs.Prelude.{ℕ, Bool, List, length}
use Rattle.rules.specs.State.{State}
use Rattle.rules.specs.Answers.{Answer}
use Rattle.rules.specs.Opening.{open_call, refusal_answer}
use Rattle.rules.specs.Removal.{close_call, expire_call, deadline_answer}
use Rattle.rules.specs.Receiving.{receive_call}
use Rattle.rules.specs.Producing.{produce_call}
use Rattle.rules.specs.Host.{set_input_call, output_call, assembly_answer, next_event_call, connections_answer, stats_answer}
use Rattle.rules.specs.Routing.{path_answer, request_answer}
use Rattle.rules.specs.Calls
use Rattle.rules.specs.Calls.{Call, answer, next}
use Rattle.msg_positions.specs.Positions.{dec_upload}
use Rattle.adapter.specs.Origins.{origin_of}
use Rattle.host_runs.specs.CallContracts.{Contract, Sets, Changes, Writes, Reads, Says, Replies, next_by, answer_by}

-- the calls that the rules have on a state that is set up; `out` and `upload` are the lent bytes as the call finds them
pub data HostCall : Type 0 where
  SetInput : (instance : ℕ) (bytes : List ℕ) → HostCall
  Output : (instance : ℕ) (out : List ℕ) → HostCall
  Assembly : (kind instance : ℕ) (out : List ℕ) → HostCall
  NextEvent : (out : List ℕ) → HostCall
  Connections : (out : List ℕ) → HostCall
  Stats : (out : List ℕ) → HostCall
  Open : (time service : ℕ) (request : List ℕ) (peer local mask : ℕ) (given : Bool) (address port ioport : ℕ) (out : List ℕ) → HostCall
  OpenRefusal : (service : ℕ) (request out : List ℕ) → HostCall
  Close : (request out : List ℕ) → HostCall
  Receive : (time from : ℕ) (frame : List ℕ) → HostCall
  Produce : (time : ℕ) (out : List ℕ) → HostCall
  Expire : (time : ℕ) → HostCall
  NextDeadline : (out : List ℕ) → HostCall
  Message : (local mask : ℕ) (message upload out : List ℕ) → HostCall

-- each has the contract of the C function of its name
abbrev pub contract_of : HostCall → Contract
contract_of (SetInput instance bytes) = Changes (set_input_call instance bytes)
contract_of (Output instance out) = Writes (output_call instance) out
contract_of (Assembly kind instance out) = Reads (assembly_answer kind instance) out
contract_of (NextEvent out) = Writes next_event_call out
contract_of (Connections out) = Reads connections_answer out
contract_of (Stats out) = Reads stats_answer out
contract_of (Open time service request peer local mask given address port ioport out) =
    Writes (open_call time service request (origin_of peer local mask given address port ioport)) out
contract_of (OpenRefusal service request out) = Says (refusal_answer service request) out
contract_of (Close request out) = Writes (close_call request) out
contract_of (Receive time from frame) = Changes (receive_call time from frame)
contract_of (Produce time out) = Writes (produce_call time) out
contract_of (Expire time) = Changes (expire_call time)
contract_of (NextDeadline out) = Reads deadline_answer out
contract_of (Message local mask message upload out) = Replies local mask message upload out

-- and is a call of the rules; of what is lent they know the room
abbrev pub call_of : HostCall → Call
call_of (SetInput instance bytes) = Calls.SetInput instance bytes
call_of (Output instance out) = Calls.ReadOutput instance (length out)
call_of (Assembly kind instance out) = Calls.ReadAssembly kind instance (length out)
call_of (NextEvent out) = Calls.NextEvent (length out)
call_of (Connections out) = Calls.Connections (length out)
call_of (Stats out) = Calls.Stats (length out)
call_of (Open time service request peer local mask given address port ioport out) =
    Calls.Open time service request (origin_of peer local mask given address port ioport) (length out)
call_of (OpenRefusal service request out) = Calls.OpenRefusal service request (length out)
call_of (Close request out) = Calls.Close request (length out)
call_of (Receive time from frame) = Calls.Receive time from frame
call_of (Produce time out) = Calls.Produce time (length out)
call_of (Expire time) = Calls.Expire time
call_of (NextDeadline out) = Calls.Deadline (length out)
call_of (Message local mask message upload out) = Calls.Message local mask message (length out) (dec_upload upload)

-- any call of a C function: setup, one of those, and the two that are lent no state and are for the host's own routing
pub data CCall : Type 0 where
  Setup : (block eds : List ℕ) (seed : ℕ) → CCall
  On : HostCall → CCall
  Path : (path out : List ℕ) → CCall
  Request : (message out : List ℕ) → CCall

abbrev pub contract : CCall → Contract
contract (Setup block eds seed) = Sets block eds seed
contract (On c) = contract_of c
contract (Path path out) = Says (path_answer path) out
contract (Request message out) = Says (request_answer message) out

-- the state that the rules leave
abbrev pub next_c : CCall → State → State
next_c (Setup block eds seed) st = next_by (Sets block eds seed) st
next_c (On c) st = next (call_of c) st
next_c (Path path out) st = st
next_c (Request message out) st = st

-- and what they answer
abbrev pub answer_c : CCall → State → Answer
answer_c (Setup block eds seed) st = answer_by (Sets block eds seed) st
answer_c (On c) st = answer (call_of c) st
answer_c (Path path out) st = path_answer path (length out)
answer_c (Request message out) st = request_answer message (length out)
