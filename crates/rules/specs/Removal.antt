-- Removal of a connection (rules 8.1 to 8.18), close and expiry (chapter 11).
use Rattle.std.specs.Prelude.{List, [], ◌∷◌, map, Bool, true, false, cond, not, ◌&&◌, ◌||◌, ℕ, ◌-◌, min, eqb, ltb, length, Option, Some, None}
use Rattle.base_cells.specs.Numbers.{le_bytes}
use Rattle.wire_rules.specs.Opens.{close_of}
use Rattle.wire_rules.specs.Replies.{close_reply}
use Rattle.rules.specs.Lists.{find, any, keep, change_first, without_first, change_at, maybe, repeat}
use Rattle.rules.specs.State.{Triad, ToId, is_owner, is_listener, Info, Fixed, Conn, with_sent, produces, Event, Closed, TimedOut, Setup, Content, State}
use Rattle.rules.specs.Answers.{Answer, Wrote, Gone, Refused, NotParsed, NothingThere, fitting, at_time, settled}
use Rattle.rules.specs.Events.{info_of, pushed, pushed_all}
use Rattle.rules.specs.Checks.{has_triad}

-- 8.4, 7.20: the multicast connections of a T→O id
abbrev pub in_stream : ToId → Conn → Bool
in_stream id c = c.fixed.multicast && eqb c.fixed.toid.0 id.0

-- those that are not listen-only
abbrev pub feeds : ToId → Conn → Bool
feeds id c = in_stream id c && not (is_listener c.fixed.kind)

-- 8.1, 8.2: a multicast producer hands on (D1: a point-to-point one hands nothing on)
abbrev pub hands_on : Conn → Bool
hands_on c = c.fixed.multicast && produces c.sent.due

-- 8.3, 8.5: sequence, CIP sequence and due time go to the first multicast connection of its id that is left, which then produces
abbrev pub handed_over : Conn → List Conn → List Conn
handed_over c rest = cond (hands_on c) (change_first (in_stream c.fixed.toid) (with_sent c.sent) rest) rest

-- 8.6 to 8.10: if a multicast non-listener went and none is left, its listeners close in table order
abbrev pub ends_stream : Conn → List Conn → Bool
ends_stream c rest = feeds c.fixed.toid c && not (any (feeds c.fixed.toid) rest)

abbrev pub listeners_of : Conn → List Conn → List Conn
listeners_of c rest = cond (ends_stream c rest) (keep (in_stream c.fixed.toid) rest) []

abbrev pub without_listeners : Conn → List Conn → List Conn
without_listeners c rest = cond (ends_stream c rest) (keep (λ x. not (in_stream c.fixed.toid x)) rest) rest

-- the table after `c` has gone and `rest` is left
abbrev pub after_removal : Conn → List Conn → List Conn
after_removal c rest = without_listeners c (handed_over c rest)

-- the table after the removal of the first that passes a test
abbrev pub remove_first : (Conn → Bool) → List Conn → List Conn
remove_first p table = maybe table (λ c. after_removal c (without_first p table)) (find p table)

-- 8.13 to 8.15: its output loses run; output bytes stay
abbrev pub idle : Content → Content
idle a = record { bytes = a.bytes; run = false; notified = a.notified }

abbrev pub run_lost : Fixed → List Content → List Content
run_lost f contents = cond (is_owner f.kind) (change_at f.output idle contents) contents

-- 8.10, 8.11: its listeners are told as Closed, before its own event
abbrev pub closed_events : Setup → List Conn → List Event
closed_events u cs = map (λ c. Closed (info_of u c.fixed)) cs

unfoldable pub removed : Bool → (Info → Event) → Conn → List Conn → State → State
removed fault why c rest st =
    record {
      setup = st.setup;
      contents = run_lost c.fixed st.contents;
      table = after_removal c rest;
      events = pushed (why (info_of st.setup c.fixed)) (pushed_all (closed_events st.setup (listeners_of c (handed_over c rest))) st.events);
      fault = fault || st.fault;
      next_id = st.next_id;
      counters = st.counters;
    }

-- the first that passes a test goes, if there is one; 8.12: `why` says how
abbrev pub removed_first : Bool → (Info → Event) → (Conn → Bool) → State → State
removed_first fault why p st = maybe st (λ c. removed fault why c (without_first p st.table) st) (find p st.table)

abbrev pub conn_triad : Triad → Conn → Bool
conn_triad t c = has_triad t c.fixed

-- CLOSE (8.16, 8.18): No. 4, 9, 8
unfoldable pub closed : Triad → State → State
closed t st = removed_first false Closed (conn_triad t) st

abbrev pub close_for : ℕ → State → Option Triad → Answer
close_for room st None = Refused NotParsed
close_for room st (Some t) = cond (any (conn_triad t) st.table) (fitting room (close_reply t) (Wrote (close_reply t))) (Refused NothingThere)

abbrev pub close_by : State → Option Triad → State
close_by st None = st
close_by st (Some t) = closed t st

unfoldable pub close_answer : List ℕ → ℕ → State → Answer
close_answer request room st = close_for room st (close_of request)

unfoldable pub close_effect : List ℕ → State → State
close_effect request st = close_by st (close_of request)

unfoldable pub close_call : List ℕ → ℕ → State → Answer × State
close_call request room st = settled (close_answer request room st) (close_effect request st) st

-- 11.1, 11.2: a connection expires when now minus its last receive time, or its open time before any frame, exceeds its timeout;
-- a clock behind that time counts as 0. Kept is that time plus the timeout (ExpiryLaws says that it is the same)
abbrev pub expired : ℕ → Conn → Bool
expired t c = ltb c.heard.until t

-- 11.3, 11.4: expiry removes the first such, repeatedly, and sets the fault mark
unfoldable pub expired_first : ℕ → State → State
expired_first t st = removed_first true TimedOut (expired t) st

unfoldable pub expire_effect : ℕ → State → State
expire_effect t st = repeat (length st.table) (expired_first t) st

-- EXPIRE: No. 3; how many went
unfoldable pub expire_answer : ℕ → State → Answer
expire_answer t st = at_time t (Gone (length st.table - length (expire_effect t st).table))

unfoldable pub expire_call : ℕ → State → Answer × State
expire_call t st = settled (expire_answer t st) (expire_effect t st) st

-- 11.6: the next deadline is the least of producing due times and receive time plus timeout
abbrev pub due_or : ℕ → Option ℕ → ℕ
due_or m None = m
due_or m (Some t) = min m t

abbrev pub deadline_of : Conn → ℕ
deadline_of c = due_or c.heard.until c.sent.due

abbrev pub least_of : ℕ → List Conn → ℕ
least_of m [] = m
least_of m (c ∷ cs) = least_of (min m (deadline_of c)) cs

abbrev pub deadline : List Conn → Option ℕ
deadline [] = None
deadline (c ∷ cs) = Some (least_of (deadline_of c) cs)

-- NEXT_DEADLINE (11.7, 11.8): No. 9, 8; the time in 8 bytes, little-endian
unfoldable pub deadline_answer : ℕ → State → Answer
deadline_answer room st = maybe (Refused NothingThere) (λ t. fitting room (le_bytes 8 t) (Wrote (le_bytes 8 t))) (deadline st.table)
