-- Packets out. Rules 10.1 to 10.12.
use Rattle.std.specs.Prelude.{List, [], ◌∷◌, ◌++◌, map, Bool, false, cond, ℕ, ◌+◌, ◌-◌, ◌%◌, ◌^◌, min, max, eqb, leb, length, get_or, Option, Some, None}
use Rattle.base_cells.specs.BigEndian.{bytes_be}
use Rattle.base_cells.specs.Records.{of_bool}
use Rattle.wire_rules.specs.Frames.{io_frame}
use Rattle.rules.specs.Lists.{keep, joined}
use Rattle.rules.specs.State.{Fixed, Sent, Conn, with_sent, Setup, Content, no_content, Counters, State}
use Rattle.rules.specs.Answers.{Answer, Wrote, fitting, at_time, settled}

-- 10.1, 10.2: a producing connection is due when its due time is not after now
abbrev pub due_by : ℕ → Option ℕ → Bool
due_by t None = false
due_by t (Some d) = leb d t

abbrev pub due : ℕ → Conn → Bool
due t c = due_by t c.sent.due

-- 10.4: the next due time is the old one plus the RPI; if that is not after now, now plus the RPI
abbrev pub next_time : ℕ → ℕ → ℕ → ℕ
next_time t rpi d = cond (leb (d + rpi) t) (t + rpi) (d + rpi)

abbrev pub next_due : ℕ → ℕ → Option ℕ → Option ℕ
next_due t rpi None = None
next_due t rpi (Some d) = Some (next_time t rpi d)

-- 10.3: both sequences step by one first
unfoldable pub sent : ℕ → Conn → Sent
sent t c =
    record {
      sequence = (c.sent.sequence + 1) % 2 ^ 32;
      cip = (c.sent.cip + 1) % 2 ^ 16;
      due = next_due t c.fixed.torpi c.sent.due;
    }

-- 10.1: each at most once per call
abbrev pub sends : ℕ → Conn → Conn
sends t c = cond (due t c) (with_sent (sent t c) c) c

-- 10.6: the frame carries the input's bytes
abbrev pub input_bytes : List Content → Fixed → List ℕ
input_bytes contents f = (get_or contents f.input no_content).bytes

unfoldable pub frame_sent : ℕ → List ℕ → Conn → List ℕ
frame_sent t bytes c = io_frame c.fixed.toid.0 (sent t c).sequence (sent t c).cip bytes

-- 10.5: address 4, port 2, multicast 1, local 4, frame length 2, all big-endian, then the frame
unfoldable pub packet : ℕ → List ℕ → Conn → List ℕ
packet t bytes c =
    bytes_be 4 c.fixed.dest.address ++ bytes_be 2 c.fixed.dest.port ++ bytes_be 1 (of_bool c.fixed.multicast) ++ bytes_be 4 c.fixed.local ++
    bytes_be 2 (length (frame_sent t bytes c)) ++ frame_sent t bytes c

-- 10.1: producing connections in table order, each packet behind the one before
unfoldable pub packets : ℕ → List Content → List Conn → List ℕ
packets t contents table = joined (λ c. packet t (input_bytes contents c.fixed) c) (keep (due t) table)

-- 10.9, 10.10: late means the late limit or more; 0 means 1,000
abbrev pub late_limit : Setup → ℕ
late_limit u = cond (eqb u.late_limit 0) 1000 u.late_limit

abbrev pub late_by : ℕ → Option ℕ → ℕ
late_by t None = 0
late_by t (Some d) = t - d

abbrev pub delays : ℕ → List Conn → List ℕ
delays t table = map (λ c. late_by t c.sent.due) (keep (due t) table)

-- 10.12: a counter stops at its largest value
abbrev pub counted : ℕ → ℕ → ℕ
counted n more = min (n + more) (2 ^ 64 - 1)

abbrev pub greatest : ℕ → List ℕ → ℕ
greatest m [] = m
greatest m (x ∷ xs) = greatest (max m x) xs

-- 10.9, 10.11: the packets, the late ones, the greatest lateness of all
unfoldable pub counters : Setup → List ℕ → Counters → Counters
counters u ds n =
    record {
      produced = counted n.produced (length ds);
      late = counted n.late (length (keep (leb (late_limit u)) ds));
      max_late = greatest n.max_late ds;
    }

-- PRODUCE (10.7, 10.8): No. 3, 8; all that is due, or nothing steps
unfoldable pub produce_answer : ℕ → ℕ → State → Answer
produce_answer t room st =
    let bytes = packets t st.contents st.table in
    at_time t (fitting room bytes (Wrote bytes))

unfoldable pub produce_effect : ℕ → State → State
produce_effect t st =
    record {
      setup = st.setup;
      contents = st.contents;
      table = map (sends t) st.table;
      events = st.events;
      fault = st.fault;
      next_id = st.next_id;
      counters = counters st.setup (delays t st.table) st.counters;
    }

unfoldable pub produce_call : ℕ → ℕ → State → Answer × State
produce_call t room st = settled (produce_answer t room st) (produce_effect t st) st
