-- An open that passes every check: the EFFECT (rules 7.8 to 7.28). Ids, stream, the new connection, events, configuration data, fault mark.
use Rattle.std.specs.Prelude.{List, [], ◌∷◌, ◌++◌, true, false, cond, ℕ, ◌+◌, ◌-◌, ◌^◌, eqb, length, take, drop, Option, Some, None, Result, Ok, Err}
use Rattle.wire_rules.specs.declared.ConnectionPath.{ConnectionPath}
use Rattle.rules.specs.declared.Stop.{Stop}
use Rattle.wire_rules.specs.declared.ForwardOpen.{ForwardOpen}
use Rattle.wire_rules.specs.Opens.{open_of}
use Rattle.wire_rules.specs.Timeout.{timeout_of}
use Rattle.wire_rules.specs.Group.{group_of}
use Rattle.wire_rules.specs.ConnectionPath.{path_of}
use Rattle.wire_rules.specs.Replies.{open_reply, open_refusal}
use Rattle.rules.specs.Lists.{change_at}
use Rattle.rules.specs.State.{ToId, Socket, Fixed, Heard, Sent, Conn, Event, Opened, Configured, Origin, Setup, shape_at, Content, State, fixeds, Stream, Plan}
use Rattle.rules.specs.Answers.{Answer, Accepted, Wrote, Refused, Failed, NotParsed, fitting, at_time, settled}
use Rattle.rules.specs.Events.{info_of, pushed_all}
use Rattle.rules.specs.Checks.{asks_multicast, path_in, verdict}

-- 7.17: the next id is one more, wrapping, and 0 is skipped
unfoldable pub after_id : ℕ → ℕ
after_id n = cond (eqb n (2 ^ 32 - 1)) 1 (n + 1)

-- 7.18, 7.19: point-to-point goes to the given address, to the peer with the given port if that address is 0.0.0.0, or to the peer with
-- the I/O port
abbrev pub point_for : Origin → Option Socket → Socket
point_for g (Some s) = cond (eqb s.address 0) (record { address = g.peer; port = s.port }) s
point_for g None = record { address = g.peer; port = g.ioport }

unfoldable pub point_dest : Origin → Socket
point_dest g = point_for g g.socket

-- 7.13: a new stream goes to the group address at the I/O port
unfoldable pub group_dest : Origin → Socket
group_dest g = record { address = group_of g.local g.mask; port = g.ioport }

-- the T→O side of the new connection, and the next id behind it
pub record Side : Type 0 where
  pub toid : ToId
  pub dest : Socket
  pub torpi : ℕ
  pub next : ℕ

-- 7.8 to 7.10: one that joins takes the stream's T→O id, destination and RPI; 7.14: a new stream draws an id; 7.15: point-to-point uses
-- the originator's
unfoldable pub side_of : ForwardOpen → Origin → ℕ → Option Stream → Side
side_of o g n (Some x) = record { toid = x.toid; dest = x.dest; torpi = x.torpi; next = n }
side_of o g n None =
    cond (asks_multicast o)
    (record { toid = record { 0 = n }; dest = group_dest g; torpi = o.to.rpi; next = after_id n })
    (record { toid = o.toid; dest = point_dest g; torpi = o.to.rpi; next = n })

-- 7.11, 7.12: one that joined does not produce; otherwise the first packet is due at once
abbrev pub first_due : ℕ → Option Stream → Sent
first_due t (Some x) = record { sequence = 0; cip = 0; due = None }
first_due t None = record { sequence = 0; cip = 0; due = Some t }

-- 7.14: the O→T id is drawn first
abbrev pub side_at : ForwardOpen → Origin → Plan → ℕ → Side
side_at o g p n = side_of o g (after_id n) p.stream

-- 7.22
unfoldable pub new_fixed : ForwardOpen → Origin → Plan → ℕ → Fixed
new_fixed o g p n =
    record {
      kind = p.kind;
      triad = o.triad;
      originator = g.peer;
      otid = record { 0 = n };
      toid = (side_at o g p n).toid;
      otrpi = o.ot.rpi;
      multiplier = o.multiplier;
      torpi = (side_at o g p n).torpi;
      input = p.input;
      output = p.output;
      dest = (side_at o g p n).dest;
      multicast = asks_multicast o;
      local = g.local;
    }

-- 7.23: its open time counts as its receive time before any frame
unfoldable pub new_heard : ℕ → ForwardOpen → Heard
new_heard t o = record { until = t + timeout_of o.ot.rpi o.multiplier; any = false; sequence = 0; anycip = false; cip = 0 }

unfoldable pub new_conn : ℕ → ForwardOpen → Origin → Plan → ℕ → Conn
new_conn t o g p n = record { fixed = new_fixed o g p n; heard = new_heard t o; sent = first_due t p.stream }

-- 7.26: configuration data is stored in its assembly
abbrev pub holding : List ℕ → Content → Content
holding bytes a = record { bytes = bytes; run = a.run; notified = a.notified }

abbrev pub stored : Option ℕ → List ℕ → List Content → List Content
stored None bytes contents = contents
stored (Some i) bytes contents = change_at i (holding bytes) contents

-- 7.26: events are Opened, then Config if data was stored
abbrev pub config_event : Setup → Option ℕ → List ℕ → List Event
config_event u None bytes = []
config_event u (Some i) bytes = Configured (shape_at u i).instance (length bytes) ∷ []

-- 7.21, 7.26, 7.28: it stands last in the table, and the fault mark is cleared
unfoldable pub opened : ℕ → ForwardOpen → Origin → List ℕ → Plan → State → State
opened t o g bytes p st =
    record {
      setup = st.setup;
      contents = stored p.stores bytes st.contents;
      table = st.table ++ (new_conn t o g p st.next_id ∷ []);
      events = pushed_all (Opened (info_of st.setup (new_fixed o g p st.next_id)) ∷ config_event st.setup p.stores bytes) st.events;
      fault = false;
      next_id = (side_at o g p st.next_id).next;
      counters = st.counters;
    }

-- an open as it came: the request's path, and the configuration data in it
abbrev pub path_bytes : List ℕ → ForwardOpen → List ℕ
path_bytes request o = take o.path.len (drop o.path.start request)

abbrev pub asked_path : List ℕ → ForwardOpen → Result ConnectionPath ℕ
asked_path request o = path_of (path_bytes request o)

abbrev pub config_bytes : List ℕ → ForwardOpen → List ℕ
config_bytes request o =
    let p = path_in (asked_path request o) in
    take p.datalen (drop p.datastart (path_bytes request o))

unfoldable pub verdict_of : List ℕ → ForwardOpen → State → Result Plan Stop
verdict_of request o st = verdict st.setup (fixeds st.table) o (asked_path request o)

-- 7.24: the reply has the ids, the triad, the O→T RPI as asked and the T→O RPI as taken
unfoldable pub reply_of : ForwardOpen → Origin → Plan → ℕ → List ℕ
reply_of o g p n = open_reply (record { 0 = n }) (side_at o g p n).toid o.triad o.ot.rpi (side_at o g p n).torpi

-- 2.11: No. 5 before No. 8; 7.25: a yes tells where a stream goes
abbrev pub plan_answer : ForwardOpen → Origin → ℕ → ℕ → Result Plan Stop → Answer
plan_answer o g n room (Err s) = Failed s
plan_answer o g n room (Ok p) =
    fitting room (reply_of o g p n) (Accepted (asks_multicast o) (side_at o g p n).dest (reply_of o g p n))

abbrev pub plan_effect : ℕ → ForwardOpen → Origin → List ℕ → State → Result Plan Stop → State
plan_effect t o g bytes st (Err s) = st
plan_effect t o g bytes st (Ok p) = opened t o g bytes p st

abbrev pub asked_answer : Origin → List ℕ → ℕ → State → Option ForwardOpen → Answer
asked_answer g request room st None = Refused NotParsed
asked_answer g request room st (Some o) = plan_answer o g st.next_id room (verdict_of request o st)

abbrev pub asked_effect : ℕ → Origin → List ℕ → State → Option ForwardOpen → State
asked_effect t g request st None = st
asked_effect t g request st (Some o) = plan_effect t o g (config_bytes request o) st (verdict_of request o st)

-- service 0x54 is a small open, 0x5B a large one
abbrev pub open_asked : ℕ → List ℕ → Option ForwardOpen
open_asked service request = cond (eqb service 0x5B) (open_of true request) (cond (eqb service 0x54) (open_of false request) None)

-- OPEN: No. 3, 4, 5, 8
unfoldable pub open_answer : ℕ → ℕ → List ℕ → Origin → ℕ → State → Answer
open_answer t service request g room st = at_time t (asked_answer g request room st (open_asked service request))

unfoldable pub open_effect : ℕ → ℕ → List ℕ → Origin → State → State
open_effect t service request g st = asked_effect t g request st (open_asked service request)

unfoldable pub open_call : ℕ → ℕ → List ℕ → Origin → ℕ → State → Answer × State
open_call t service request g room st = settled (open_answer t service request g room st) (open_effect t service request g st) st

-- OPEN_REFUSAL: the data of a refused open's reply. No. 4, 8
abbrev pub refusal_for : ℕ → Option ForwardOpen → Answer
refusal_for room None = Refused NotParsed
refusal_for room (Some o) = fitting room (open_refusal o.triad) (Wrote (open_refusal o.triad))

unfoldable pub refusal_answer : ℕ → List ℕ → ℕ → Answer
refusal_answer service request room = refusal_for room (open_asked service request)
