-- A message to the adapter's own objects: the reply, which every message gets, and the upload position left. The state stays.
use Rattle.std.specs.Prelude.{List, [], ◌∷◌, ◌++◌, cond, ℕ, ◌+◌, ◌%◌, eqb, leb, drop, Option, Some, None, Result, Ok, Err}
use Rattle.wire_rules.specs.declared.Request.{Request}
use Rattle.rules.specs.declared.objects.Position.{Position}
use Rattle.wire_rules.specs.declared.Object.{Object}
use Rattle.wire_rules.specs.Requests.{request_of}
use Rattle.rules.specs.State.{Setup, State}
use Rattle.rules.specs.Answers.{Answer, Wrote, Refused, NoRoom, settled}
use Rattle.rules.specs.Attributes.{Outcome, Gives, Fails, PathSegment, PathUnknown, ServiceUnknown, status_number}
use Rattle.rules.specs.Objects.{identity, assembly, tcp_ip, ethernet_link, file}

-- 13.1: a reply: the service with bit 7 set, a zero byte, the general status, no further words, then the data
unfoldable pub reply_head : ℕ → ℕ → List ℕ
reply_head service status = (0x80 + service % 0x80) ∷ 0 ∷ status ∷ 0 ∷ []

unfoldable pub reply_to : ℕ → Outcome → List ℕ
reply_to service (Gives bytes) = reply_head service 0 ++ bytes
reply_to service (Fails f) = reply_head service (status_number f)

-- 13.4: without an EDS there is no File object
abbrev pub file_in : Setup → ℕ → ℕ → Option ℕ → List ℕ → Option Position → Option (List ℕ) → Outcome × Option Position
file_in u service instance a bytes up None = (Fails PathUnknown, up)
file_in u service instance a bytes up (Some eds) = file u eds service instance a bytes up

-- 13.4: the five objects; class 0x02 has no service; any other class, 0x64 and 0xF4 too, is unknown. Only File has a use for the position
unfoldable pub of_class : State → ℕ → ℕ → ℕ → Option ℕ → List ℕ → Option Position → ℕ → ℕ → Outcome × Option Position
of_class st local mask service a bytes up class instance =
    cond (eqb class 0x01) (identity st service instance a, up)
    (cond (eqb class 0x04) (assembly st service instance a, up)
    (cond (eqb class 0xF5) (tcp_ip local mask service instance a, up)
    (cond (eqb class 0xF6) (ethernet_link st.setup service instance a, up)
    (cond (eqb class 0x37) (file_in st.setup service instance a bytes up st.setup.eds)
    (cond (eqb class 0x02) (Fails ServiceUnknown, up)
    (Fails PathUnknown, up))))))

-- 13.3: a path that names no object is unknown
abbrev pub of_object : State → ℕ → ℕ → ℕ → Option ℕ → List ℕ → Option Position → Option Object → Outcome × Option Position
of_object st local mask service a bytes up None = (Fails PathUnknown, up)
of_object st local mask service a bytes up (Some o) = of_class st local mask service a bytes up o.class o.instance

-- 13.3: parse faults are replies (0x04), and so is a message beyond the sizes
abbrev pub of_request : State → ℕ → ℕ → List ℕ → Option Position → Result Request ℕ → Outcome × Option Position
of_request st local mask message up (Err service) = (Fails PathSegment, up)
of_request st local mask message up (Ok r) =
    of_object st local mask r.service r.attribute (drop r.datastart message) up r.object

abbrev pub service_of : Result Request ℕ → ℕ
service_of (Err service) = service
service_of (Ok r) = r.service

unfoldable pub message_outcome : State → ℕ → ℕ → List ℕ → Option Position → Outcome × Option Position
message_outcome st local mask message up = of_request st local mask message up (request_of message)

unfoldable pub message_reply : State → ℕ → ℕ → List ℕ → Option Position → List ℕ
message_reply st local mask message up = reply_to (service_of (request_of message)) (message_outcome st local mask message up).0

-- 13.20: an object reply buffer under 516 bytes gives No. 8
abbrev pub reply_room : ℕ
reply_room = 516

unfoldable pub message_answer : ℕ → ℕ → List ℕ → ℕ → State → Option Position → Answer
message_answer local mask message room st up = cond (leb reply_room room) (Wrote (message_reply st local mask message up)) (Refused NoRoom)

-- MESSAGE: No. 8, else a reply, always
unfoldable pub message_call : ℕ → ℕ → List ℕ → ℕ → State → Option Position → Answer × Option Position
message_call local mask message room st up =
    settled (message_answer local mask message room st up) (message_outcome st local mask message up).1 up
