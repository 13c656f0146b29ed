-- Frames in. Rules 9.1 to 9.15.
use Rattle.std.specs.Prelude.{List, [], ◌∷◌, Bool, true, cond, not, ◌&&◌, ◌||◌, ℕ, ◌+◌, ◌-◌, ◌%◌, ◌^◌, eqb, leb, ltb, length, take, drop, get_or, Option, Some, None}
use Rattle.std.specs.Bool.{beq}
use Rattle.base_cells.specs.Numbers.{le}
use Rattle.wire_rules.specs.declared.IoFrame.{IoFrame}
use Rattle.wire_rules.specs.declared.IoFrame.TheVariants.{Io, NotIo, Broken}
use Rattle.wire_rules.specs.Frames.{io_of}
use Rattle.wire_rules.specs.Timeout.{timeout_of}
use Rattle.rules.specs.Lists.{find, change_first, change_at, maybe, same}
use Rattle.rules.specs.State.{OtId, is_owner, Fixed, Heard, Conn, with_heard, Event, OutputChanged, Setup, shape_at, Content, no_content, State}
use Rattle.rules.specs.Answers.{Answer, Done, at_time, settled}
use Rattle.rules.specs.Events.{pushed_all}

-- an I/O frame taken apart: its O→T id, its sequence, and what the data item carries
pub record Frame : Type 0 where
  pub id : OtId
  pub sequence : ℕ
  pub payload : List ℕ

-- 9.1, 9.2: receive finds the first connection with that O→T id and sender address
abbrev pub meant_for : ℕ → Frame → Conn → Bool
meant_for from f c = eqb c.fixed.otid.0 f.id.0 && eqb c.fixed.originator from

-- 9.3, 9.4: the sequence minus the last, modulo 2^32, must be 1 to 0x7FFFFFFF; the first is free
abbrev pub ahead : ℕ → ℕ → ℕ
ahead last n = (n + 2 ^ 32 - last) % 2 ^ 32

unfoldable pub newer : Heard → ℕ → Bool
newer h n = not h.any || leb 1 (ahead h.sequence n) && leb (ahead h.sequence n) 0x7FFFFFFF

-- 9.7: the 16-bit CIP sequence, of an owner's frame that has one
abbrev pub cip_of : Frame → ℕ
cip_of f = le 2 f.payload 0

abbrev pub has_cip : Frame → Conn → Bool
has_cip f c = is_owner c.fixed.kind && leb 2 (length f.payload)

-- 9.6, 9.9: then sequence and receive time are recorded, even for a heartbeat or a bad payload; the CIP sequence is recorded
-- before header and length are looked at
unfoldable pub recorded : ℕ → Frame → Conn → Heard
recorded t f c =
    record {
      until = t + timeout_of c.fixed.otrpi c.fixed.multiplier;
      any = true;
      sequence = f.sequence;
      anycip = has_cip f c || c.heard.anycip;
      cip = cond (has_cip f c) (cip_of f) c.heard.cip;
    }

-- 9.5: a frame that is not newer is not recorded
unfoldable pub hear : ℕ → Frame → Conn → Conn
hear t f c = cond (newer c.heard f.sequence) (with_heard (recorded t f c) c) c

-- 9.8: the CIP sequence must differ from the last
abbrev pub repeats : Frame → Heard → Bool
repeats f h = h.anycip && eqb h.cip (cip_of f)

-- 9.11: run is bit 0 of the header
abbrev pub run_bit : Frame → Bool
run_bit f = eqb (get_or f.payload 2 0 % 2) 1

-- 9.10: the data behind CIP sequence and header must be of the output's size
abbrev pub right_size : Setup → Frame → Fixed → Bool
right_size u f x = ltb x.output (length u.assemblies) && eqb (length f.payload) ((shape_at u x.output).size + 6)

-- the frame's data is taken for the output
unfoldable pub taken : Setup → Frame → Conn → Bool
taken u f c = newer c.heard f.sequence && has_cip f c && not (repeats f c.heard) && right_size u f c.fixed

abbrev pub data_of : Frame → List ℕ
data_of f = drop 6 f.payload

-- 9.13: a change of data or run
unfoldable pub changes : Frame → Content → Bool
changes f a = not (same a.bytes (data_of f) && beq a.run (run_bit f))

-- 9.12: data and run are those of the frame
unfoldable pub deliver : Frame → Content → Content
deliver f a = cond (changes f a) (record { bytes = data_of f; run = run_bit f; notified = true }) a

abbrev pub delivered : Setup → Frame → Conn → List Content → List Content
delivered u f c contents = cond (taken u f c) (change_at c.fixed.output (deliver f) contents) contents

-- 9.13, 9.14: an Output event appears only on a change, once until the output is read
abbrev pub announces : Frame → Content → Bool
announces f a = changes f a && not a.notified

abbrev pub output_events : Setup → Frame → Conn → List Content → List Event
output_events u f c contents =
    cond (taken u f c && announces f (get_or contents c.fixed.output no_content)) (OutputChanged (shape_at u c.fixed.output).instance ∷ []) []

-- what a frame from an address does
unfoldable pub received : ℕ → ℕ → Frame → State → State
received t from f st =
    let to = find (meant_for from f) st.table in
    record {
      setup = st.setup;
      contents = maybe st.contents (λ c. delivered st.setup f c st.contents) to;
      table = change_first (meant_for from f) (hear t f) st.table;
      events = pushed_all (maybe [] (λ c. output_events st.setup f c st.contents) to) st.events;
      fault = st.fault;
      next_id = st.next_id;
      counters = st.counters;
    }

-- 9.15: receive ignores a frame over size or of no use; that is no refusal
abbrev pub frame_of : List ℕ → IoFrame → Option Frame
frame_of bytes (Io id sequence start len) = Some (record { id = id; sequence = sequence; payload = take len (drop start bytes) })
frame_of bytes NotIo = None
frame_of bytes (Broken offset) = None

-- RECEIVE: No. 3
unfoldable pub receive_answer : ℕ → Answer
receive_answer t = at_time t Done

unfoldable pub receive_effect : ℕ → ℕ → List ℕ → State → State
receive_effect t from bytes st = maybe st (λ f. received t from f st) (frame_of bytes (io_of bytes))

unfoldable pub receive_call : ℕ → ℕ → List ℕ → State → Answer × State
receive_call t from bytes st = settled (receive_answer t) (receive_effect t from bytes st) st
