-- Events: their records, and the list that keeps them. Rules 12.6 to 12.11, 12.14.
use Rattle.std.specs.Prelude.{List, [], ◌∷◌, ◌++◌, cond, ℕ, ◌+◌, ◌%◌, ltb, length, drop, replicate}
use Rattle.base_cells.specs.Numbers.{le_bytes}
use Rattle.base_cells.specs.Records.{of_bool}
use Rattle.rules.specs.State.{Kind, Owner, InputOnly, ListenOnly, Fixed, Info, Event, Opened, Closed, TimedOut, Configured, OutputChanged, Setup, shape_at, Events, is_owner}

-- 12.11: what the host is told of a connection
unfoldable pub info_of : Setup → Fixed → Info
info_of u f =
    record {
      kind = f.kind;
      originator = f.originator;
      otrpi = f.otrpi;
      torpi = f.torpi;
      input = (shape_at u f.input).instance;
      inputsize = (shape_at u f.input).size;
      output = cond (is_owner f.kind) (shape_at u f.output).instance 0;
      outputsize = cond (is_owner f.kind) (shape_at u f.output).size 0;
      multicast = f.multicast;
      otid = f.otid;
      toid = f.toid;
    }

-- 12.8: 1 owner, 2 input-only, 3 listen-only
abbrev pub kind_number : Kind → ℕ
kind_number Owner = 1
kind_number InputOnly = 2
kind_number ListenOnly = 3

-- 12.8: the record of a connection, 32 bytes: what it tells, kind, multicast, a spare byte, then the numbers, little-endian
unfoldable pub info_record : ℕ → Info → List ℕ
info_record what i =
    what ∷ kind_number i.kind ∷ of_bool i.multicast ∷ 0 ∷
    le_bytes 4 i.originator ++ le_bytes 4 i.otrpi ++ le_bytes 4 i.torpi ++ le_bytes 4 i.otid.0 ++ le_bytes 4 i.toid.0 ++
    le_bytes 2 i.input ++ le_bytes 2 i.inputsize ++ le_bytes 2 i.output ++ le_bytes 2 i.outputsize

-- 12.9, 12.10: the record of an event, 32 bytes: 1 opened, 2 closed, 3 timed out, 4 configuration stored, 5 output changed
unfoldable pub event_record : Event → List ℕ
event_record (Opened i) = info_record 1 i
event_record (Closed i) = info_record 2 i
event_record (TimedOut i) = info_record 3 i
event_record (Configured instance length) = 4 ∷ 0 ∷ 0 ∷ 0 ∷ le_bytes 2 instance ++ le_bytes 2 length ++ replicate 24 0
event_record (OutputChanged instance) = 5 ∷ 0 ∷ 0 ∷ 0 ∷ le_bytes 2 instance ++ replicate 26 0

-- 12.7: 1,024 events are kept; a 1,025th drops the oldest
abbrev pub max_events : ℕ
max_events = 1024

unfoldable pub oldest_gone : Events → Events
oldest_gone es = record { gone = (es.gone + 1) % max_events; waiting = drop 1 es.waiting }

unfoldable pub appended : List ℕ → Events → Events
appended e es = record { gone = es.gone; waiting = es.waiting ++ (e ∷ []) }

unfoldable pub pushed : Event → Events → Events
pushed e es = appended (event_record e) (cond (ltb (length es.waiting) max_events) es (oldest_gone es))

-- 12.14: the events of one call in their order
unfoldable pub pushed_all : List Event → Events → Events
pushed_all [] es = es
pushed_all (e ∷ rest) es = pushed_all rest (pushed e es)
