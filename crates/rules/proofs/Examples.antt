-- The definition computes. First the fixed examples of the source; then one short day: a controller (address 8) owns output 150 and starts
-- a multicast stream of input 101, a display (address 7) listens, a frame brings data and run, packets leave, the controller falls
-- silent, and expiry takes both; then what earlier versions got wrong; then each check's refusal, and which of two comes first.
use Rattle.std.specs.Prelude.{Option, Some, None}
use mathlib.Core.Path.{refl}
use mathlib.Core.List.{List, [], ◌∷◌, ◌++◌, map}
use Rattle.std.specs.Prelude.{None, Some}
use mathlib.Core.Bool.{Bool, true, false}
use Prim.Native.Nat.{ℕ, ◌+◌, ◌*◌, ◌/◌, ◌^◌}
use lib.ListN.{length, get_or, set, replicate}
use Rattle.base_cells.specs.Numbers.{le_bytes}
use Rattle.base_cells.specs.Records.{sum}
use Rattle.wire_rules.specs.Frames.{io_frame}
use Rattle.wire_rules.specs.Segments.{segs_of}
use Rattle.wire_rules.specs.Segments
use Rattle.wire_rules.specs.Examples.{Example, ◌is◌, Hold, address}
use Rattle.wire_rules.specs.Params.{small_params}
use Rattle.wire_rules.specs.Timeout.{timeout_of}
use Rattle.wire_rules.specs.Group.{group_of_host}
use Rattle.wire_rules.specs.declared.NetType.TheVariants.{Null, Multicast}
use Rattle.wire_rules.specs.declared.Seg.TheVariants.{Class, Instance, Point}
use Rattle.rules.specs.State
use Rattle.rules.specs.State.{Input, Output, Config, Conn, Setup, Content, State, Origin, Fixed, Events, OutputChanged}
use Rattle.rules.specs.Answers
use Rattle.rules.specs.Answers.{Answer, Wrote, Gone, Refused, Failed, NoRoom, NothingThere, answer_number}
use Rattle.rules.specs.Setup.{fresh}
use Rattle.rules.specs.Events.{pushed}
use Rattle.rules.specs.Checks.{room_check}
use Rattle.rules.specs.Opening.{open_call}
use Rattle.rules.specs.Removal.{expire_call, deadline_answer}
use Rattle.rules.specs.Receiving.{newer}
use Rattle.rules.specs.Producing.{produce_call}
use Rattle.rules.specs.Upload.{checksum}
use Rattle.rules.specs.Calls.{Call, run}
use Rattle.rules.proofs.Computing.{wire, openings, removals, traffic, hosting}

-- ---- the fixed examples of the source

-- whether a sequence is taken after a last one
abbrev pub follows : ℕ → ℕ → Bool
follows last n = newer (record { until = 0; any = true; sequence = last; anycip = false; cip = 0 }) n

abbrev pub fixed_examples : List Example
fixed_examples =
    (timeout_of 10000 0 is 40000) ∷
    (timeout_of 10000 7 is 5120000) ∷
    (timeout_of 10000 200 is 5120000) ∷
    (follows 5 5 is false) ∷
    (follows 0xFFFFFFFF 0 is true) ∷
    (follows 0 0x7FFFFFFF is true) ∷
    (follows 0 0x80000000 is false) ∷
    (group_of_host 0 is address 239 192 128 224) ∷
    (group_of_host 1 is address 239 192 1 0) ∷
    (segs_of (0x20 ∷ 0x04 ∷ 0x24 ∷ 0x05 ∷ 0x2C ∷ 0x64 ∷ 0x2C ∷ 0x65 ∷ []) is Segments.segs (Class 4 ∷ Instance 5 ∷ Point 100 ∷ Point 101 ∷ [])) ∷
    (segs_of (0x20 ∷ []) is Segments.broken 0) ∷
    (small_params 0x2A26 is record { size = 38; variable = true; net = Multicast }) ∷
    (checksum (0x01 ∷ 0x02 ∷ 0x03 ∷ []) is 0xFFFA) ∷
    []

pub fixed_examples_lem : Hold fixed_examples
unfolding wire traffic checksum sum
fixed_examples_lem = (refl, (refl, (refl, (refl, (refl, (refl, (refl, (refl, (refl, (refl, (refl, (refl, (refl, tt)))))))))))))

-- ---- a day
abbrev pub setup : Setup
setup =
    record {
      identity = record { vendor = 1; device = 12; product = 3; major = 1; minor = 5; serial = 9; name = [] };
      input_only = 198;
      listen_only = 199;
      rpi_min = 1000;
      rpi_max = 100000;
      late_limit = 0;
      transfer_limit = 240;
      mac = 0 ∷ 0 ∷ 0 ∷ 0 ∷ 0 ∷ 0 ∷ [];
      eds = None;
      eds_name = [];
      assemblies =
          record { instance = 150; kind = Output; size = 2 } ∷
          record { instance = 101; kind = Input; size = 1 } ∷
          record { instance = 5; kind = Config; size = 2 } ∷
          [];
    }

abbrev pub start : State
start = fresh setup 4

-- a small open: serial number, T→O id, multiplier, O→T RPI and parameters, T→O RPI and parameters, path
abbrev pub ask : ℕ → ℕ → ℕ → ℕ → ℕ → ℕ → ℕ → List ℕ → List ℕ
ask serial toid multiplier otrpi ot torpi to path =
    0 ∷ 0 ∷
    le_bytes 4 0 ++ le_bytes 4 toid ++ le_bytes 2 serial ++ le_bytes 2 1 ++ le_bytes 4 1 ++ (multiplier ∷ 0 ∷ 0 ∷ 0 ∷ []) ++ le_bytes 4 otrpi ++
    le_bytes 2 ot ++ le_bytes 4 torpi ++ le_bytes 2 to ++ (1 ∷ length path / 2 ∷ []) ++ path

abbrev pub from : ℕ → Origin
from peer =
    record { peer = peer; local = 0x0A000002; mask = 0xFF000000; socket = None; ioport = 2222 }

-- class 4, an O→T point, T→O point 101
abbrev pub points : ℕ → List ℕ
points ot = 0x20 ∷ 4 ∷ 0x2C ∷ ot ∷ 0x2C ∷ 101 ∷ []

-- O→T point-to-point of 8 bytes, T→O multicast of 3
abbrev pub owner : List ℕ
owner = ask 1 0 0 10000 0x4008 10000 0x2003 (points 150)

abbrev pub listener : List ℕ
listener = ask 2 0 0 50000 0x4000 10000 0x2003 (points 199)

-- the frame of O→T id 5: sequence, CIP sequence, run, data
abbrev pub heard : ℕ → ℕ → ℕ → List ℕ → List ℕ
heard sequence cip run bytes = io_frame 5 sequence cip (le_bytes 4 run ++ bytes)

-- what is looked at of a connection
abbrev pub brief : Conn → ℕ × ℕ × ℕ × Option ℕ × ℕ
brief c = (c.fixed.otid.0, c.fixed.toid.0, c.heard.until, c.sent.due, c.sent.sequence)

abbrev pub opens : List Call
opens = Call.Open 1000 0x54 owner (from 8) 26 ∷ Call.Open 1000 0x54 listener (from 7) 26 ∷ []

-- the state at noon: both are open, a frame came at 2000, all that was due at 2000 is sent
abbrev pub noon : List Call
noon = opens ++ (Call.Receive 2000 8 (heard 1 1 1 (0xAA ∷ 0xBB ∷ [])) ∷ Call.Produce 2000 34 ∷ [])

-- the controller falls silent
abbrev pub night : List Call
night = noon ++ (Call.Expire 42001 ∷ [])

-- of each waiting event what it tells
abbrev pub told : State → List ℕ
told st = map (λ e. get_or e 0 0) st.events.waiting

-- the output
abbrev pub output : State → Content
output st = get_or st.contents 0 State.no_content

abbrev pub the_day : List Example
the_day =
    -- ids 5 and 6 for the owner, 7 for the listener, which joins the stream 6 and does not produce
    (map brief (run opens start).table is (5, 6, 41000, Some 1000, 0) ∷ (7, 6, 201000, None, 0) ∷ []) ∷
    -- the owner is told that it is multicast, the port and the group of host 2
    (answer_number (open_call 1000 0x54 owner (from 8) 26 start).0 is 2 ^ 8 + 2 ^ 16 * 2222 + 2 ^ 32 * address 239 192 1 32) ∷
    -- and gets 26 bytes: ids 5 and 6, serial 1, vendor 1, originator 1, both RPIs, two zeros
    (Answers.answer_bytes (open_call 1000 0x54 owner (from 8) 26 start).0 is
    5 ∷ 0 ∷ 0 ∷ 0 ∷ 6 ∷ 0 ∷ 0 ∷ 0 ∷ 1 ∷ 0 ∷ 1 ∷ 0 ∷ 1 ∷ 0 ∷ 0 ∷ 0 ∷ 16 ∷ 39 ∷ 0 ∷ 0 ∷ 16 ∷ 39 ∷ 0 ∷ 0 ∷ 0 ∷ 0 ∷ []) ∷
    -- the frame's data and run are taken, and it lives on until 2000 + 40000
    (output (run noon start) is record { bytes = 0xAA ∷ 0xBB ∷ []; run = true; notified = true }) ∷
    (map brief (run noon start).table is (5, 6, 42000, Some 11000, 1) ∷ (7, 6, 201000, None, 0) ∷ []) ∷
    -- one packet of 34 bytes: to 239.192.1.32 port 2222, multicast, from 10.0.0.2, 21 bytes of frame
    ((produce_call 2000 34 (run opens start)).0 is
    Wrote (239 ∷ 192 ∷ 1 ∷ 32 ∷ 8 ∷ 174 ∷ 1 ∷ 10 ∷ 0 ∷ 0 ∷ 2 ∷ 0 ∷ 21 ∷
    2 ∷ 0 ∷ 2 ∷ 0x80 ∷ 8 ∷ 0 ∷ 6 ∷ 0 ∷ 0 ∷ 0 ∷ 1 ∷ 0 ∷ 0 ∷ 0 ∷ 0xB1 ∷ 0 ∷ 3 ∷ 0 ∷ 1 ∷ 0 ∷ 0 ∷ [])) ∷
    -- or, with a byte too little, nothing
    (produce_call 2000 33 (run opens start) is (Refused NoRoom, run opens start)) ∷
    -- 1,000 microseconds late
    ((run noon start).counters is record { produced = 1; late = 1; max_late = 1000 }) ∷
    -- the next deadline, and at that very time nothing has expired
    (deadline_answer 8 (run noon start) is Wrote (le_bytes 8 11000)) ∷
    ((expire_call 42000 (run noon start)).0 is Gone 0) ∷
    -- one later, the owner goes, and the listener with its stream
    ((expire_call 42001 (run noon start)).0 is Gone 2) ∷
    ((run night start).table is []) ∷
    -- the output has lost run, its bytes stay
    (output (run night start) is record { bytes = 0xAA ∷ 0xBB ∷ []; run = false; notified = true }) ∷
    ((run night start).fault is true) ∷
    -- two opened, an output changed, the listener closed, then the owner timed out
    (told (run night start) is 1 ∷ 1 ∷ 5 ∷ 2 ∷ 3 ∷ []) ∷
    (deadline_answer 8 (run night start) is Refused NothingThere) ∷
    []

pub the_day_lem : Hold the_day
unfolding openings removals traffic
the_day_lem = (refl, (refl, (refl, (refl, (refl, (refl, (refl, (refl, (refl, (refl, (refl, (refl, (refl, (refl, (refl, (refl, tt))))))))))))))))

-- ---- easy slips

-- an input-only open, point-to-point, whose T→O id is that of the owner's stream
abbrev pub stranger : List ℕ
stranger = ask 3 6 0 10000 0x4000 10000 0x4003 (points 198)

abbrev pub ending : ℕ → List ℕ
ending serial = 0 ∷ 0 ∷ le_bytes 2 serial ++ le_bytes 2 1 ++ le_bytes 4 1 ++ (0 ∷ 0 ∷ [])

-- input-only, multicast: it joins
abbrev pub joiner : List ℕ
joiner = ask 4 0 0 10000 0x4000 10000 0x2003 (points 198)

abbrev pub after_frames : List (List ℕ) → State
after_frames fs = run (opens ++ map (Call.Receive 2000 8) fs) start

-- how many events have left the list, and how many are in it
abbrev pub events : Events → ℕ × ℕ
events es = (es.gone, length es.waiting)

abbrev pub full : ℕ → Events
full n = record { gone = 0; waiting = replicate n [] }

abbrev pub anyone : Fixed
anyone =
    record {
      kind = State.InputOnly;
      triad = record { serial = 1; vendor = 1; originator = 1 };
      originator = 8;
      otid = record { 0 = 5 };
      toid = record { 0 = 6 };
      otrpi = 10000;
      multiplier = 0;
      torpi = 10000;
      input = 1;
      output = 0;
      dest = record { address = 0; port = 0 };
      multicast = true;
      local = 0;
    }

abbrev pub slips : List Example
slips =
    -- closing a point-to-point connection rewinds no stream of an equal id (D1)
    (map brief (run (noon ++ (Call.Open 2000 0x54 stranger (from 9) 26 ∷ Call.Close (ending 3) 10 ∷ [])) start).table is
    (5, 6, 42000, Some 11000, 1) ∷ (7, 6, 201000, None, 0) ∷ []) ∷
    -- a stream is handed to the first multicast connection left, the listener, and goes on where it was
    (map brief (run (noon ++ (Call.Open 2000 0x54 joiner (from 9) 26 ∷ Call.Close (ending 1) 10 ∷ [])) start).table is
    (7, 6, 201000, Some 11000, 1) ∷ (8, 6, 42000, None, 0) ∷ []) ∷
    -- a close takes run away, and the bytes stay
    (output (run (noon ++ (Call.Close (ending 1) 10 ∷ [])) start) is record { bytes = 0xAA ∷ 0xBB ∷ []; run = false; notified = true }) ∷
    -- the CIP sequence of a frame of the wrong length counts: good data with that CIP sequence is then ignored
    (output (after_frames (heard 1 7 1 (1 ∷ []) ∷ heard 2 7 1 (1 ∷ 2 ∷ []) ∷ [])) is record { bytes = 0 ∷ 0 ∷ []; run = false; notified = false }) ∷
    (output (after_frames (heard 1 7 1 (1 ∷ []) ∷ heard 2 8 1 (1 ∷ 2 ∷ []) ∷ [])) is record { bytes = 1 ∷ 2 ∷ []; run = true; notified = true }) ∷
    -- a frame from another address is not the controller's
    (run (opens ++ (Call.Receive 2000 7 (heard 1 1 1 (1 ∷ 2 ∷ [])) ∷ [])) start is run opens start) ∷
    -- one event for two changes, and another after the output was read
    (told (after_frames (heard 1 1 1 (1 ∷ 2 ∷ []) ∷ heard 2 2 1 (1 ∷ 3 ∷ []) ∷ [])) is 1 ∷ 1 ∷ 5 ∷ []) ∷
    (told (run (opens ++ (Call.Receive 2000 8 (heard 1 1 1 (1 ∷ 2 ∷ [])) ∷ Call.ReadOutput 150 3 ∷ Call.Receive 2000 8 (heard 2 2 1 (1 ∷ 3 ∷ [])) ∷ [])) start) is 1 ∷ 1 ∷ 5 ∷ 5 ∷ []) ∷
    -- an open with too little room for its reply draws no id
    (open_call 1000 0x54 owner (from 8) 25 start is (Refused NoRoom, start)) ∷
    -- an open at another T→O RPI starts a stream of its own
    (map brief (run (opens ++ (Call.Open 2000 0x54 (ask 4 0 0 10000 0x4000 20000 0x2003 (points 198)) (from 9) 26 ∷ [])) start).table is
    (5, 6, 41000, Some 1000, 0) ∷ (7, 6, 201000, None, 0) ∷ (8, 9, 42000, Some 2000, 0) ∷ []) ∷
    -- a 1,024th event is kept with all before, a 1,025th drops the oldest
    (events (pushed (OutputChanged 150) (full 1023)) is (0, 1024)) ∷
    (events (pushed (OutputChanged 150) (full 1024)) is (1, 1024)) ∷
    -- a 32nd connection finds room, a 33rd does not
    (room_check (replicate 31 anyone) is None) ∷
    (room_check (replicate 32 anyone) is Some Answers.Full) ∷
    -- shorter input data leaves the rest zero
    ((get_or (run (Call.SetInput 101 (9 ∷ []) ∷ Call.SetInput 101 [] ∷ []) start).contents 1 State.no_content).bytes is 0 ∷ []) ∷
    []

pub no_slips : Hold slips
unfolding openings removals traffic hosting
no_slips = (refl, (refl, (refl, (refl, (refl, (refl, (refl, (refl, (refl, (refl, (refl, (refl, (refl, (refl, (refl, tt)))))))))))))))

-- ---- the checks

abbrev pub refused : List ℕ → State → Answer
refused request st = (open_call 1000 0x54 request (from 9) 26 st).0

-- the owner's open with another path, other parameters, RPIs
abbrev pub by : List ℕ → Answer
by path = refused (ask 1 0 0 10000 0x4008 10000 0x2003 path) start

abbrev pub having : ℕ → ℕ → ℕ → ℕ → Answer
having otrpi ot torpi to = refused (ask 1 0 0 otrpi ot torpi to (points 150)) start

-- a key before the points
abbrev pub keyed : ℕ → ℕ → ℕ → ℕ → ℕ → List ℕ
keyed vendor device product major minor = 0x34 ∷ 4 ∷ le_bytes 2 vendor ++ le_bytes 2 device ++ le_bytes 2 product ++ (major ∷ minor ∷ []) ++ points 150

-- configuration data behind an instance and the points
abbrev pub configured : ℕ → List ℕ → List ℕ
configured instance bytes = 0x20 ∷ 4 ∷ 0x24 ∷ instance ∷ 0x2C ∷ 150 ∷ 0x2C ∷ 101 ∷ 0x80 ∷ length bytes / 2 ∷ bytes

abbrev pub is_accepted : Answer → Bool
is_accepted a = Answers.is_yes a

abbrev pub the_checks : List Example
the_checks =
    (refused (set owner 34 0x81) start is Failed (Answers.Transport 0x81)) ∷
    (refused (set owner 34 0x03) start is Failed (Answers.Transport 0x03)) ∷
    (is_accepted (refused (set owner 34 0x71) start) is true) ∷
    (by (0x20 ∷ 4 ∷ 0x2C ∷ 150 ∷ 0x2F ∷ 101 ∷ []) is Failed (Answers.PathBroken 4)) ∷
    (by (0x30 ∷ 1 ∷ points 150) is Failed Answers.PathBarred) ∷
    (by (keyed 2 0 0 0 0) is Failed (Answers.KeyVendor 2 1)) ∷
    (by (keyed 1 0 4 0 0) is Failed (Answers.KeyProduct 4 3)) ∷
    (by (keyed 1 13 3 0 0) is Failed (Answers.KeyDevice 13 12)) ∷
    (by (keyed 1 12 3 2 0) is Failed (Answers.KeyRevision 2 0 1 5)) ∷
    (by (keyed 1 12 3 1 4) is Failed (Answers.KeyRevision 1 4 1 5)) ∷
    (is_accepted (by (keyed 1 12 3 0x81 4)) is true) ∷
    (by (keyed 1 12 3 0x81 6) is Failed (Answers.KeyRevision 0x81 6 1 5)) ∷
    (is_accepted (by (keyed 0 0 0 0x80 99)) is true) ∷
    (by (0x20 ∷ 6 ∷ 0x2C ∷ 150 ∷ 0x2C ∷ 101 ∷ []) is Failed (Answers.ClassNotFour (Some 6))) ∷
    (by (0x20 ∷ 4 ∷ 0x2C ∷ 150 ∷ []) is Failed (Answers.NumberCount 1)) ∷
    (by (points 151) is Failed (Answers.NoOutputPoint 151)) ∷
    (by (0x20 ∷ 4 ∷ 0x2C ∷ 150 ∷ 0x2C ∷ 150 ∷ []) is Failed (Answers.NoInputPoint 150)) ∷
    (by (configured 6 (1 ∷ 2 ∷ [])) is Failed (Answers.NoConfig 2)) ∷
    (by (configured 5 (1 ∷ 2 ∷ 3 ∷ 4 ∷ [])) is Failed (Answers.ConfigLength 4 2)) ∷
    (is_accepted (by (configured 5 (1 ∷ 2 ∷ []))) is true) ∷
    (having 999 0x4008 10000 0x2003 is Failed (Answers.OtRpi 999 1000 100000)) ∷
    (having 10000 0x4008 100001 0x2003 is Failed (Answers.ToRpi 100001 1000 100000)) ∷
    (is_accepted (having 1000 0x4008 100000 0x2003) is true) ∷
    (having 10000 0x2008 10000 0x2003 is Failed (Answers.OtType Multicast)) ∷
    (having 10000 0x4008 10000 0x0003 is Failed (Answers.ToType Null)) ∷
    (having 10000 0x4009 10000 0x2003 is Failed (Answers.OwnerSize 9 8)) ∷
    (is_accepted (having 10000 0x4207 10000 0x2003) is true) ∷
    (refused (ask 1 0 0 10000 0x4001 10000 0x2003 (points 198)) start is Failed (Answers.HeartbeatSize 1)) ∷
    (having 10000 0x4008 10000 0x2002 is Failed (Answers.InputSize 2 3)) ∷
    (refused owner (run opens start) is Failed Answers.TriadInUse) ∷
    (refused (ask 3 0 0 10000 0x4008 10000 0x2003 (points 150)) (run opens start) is Failed (Answers.Owned 150)) ∷
    (refused listener start is Failed Answers.NoStream) ∷
    (refused (ask 3 0 0 10000 0x4000 10000 0x4003 (points 199)) (run opens start) is Failed Answers.ListenPointToPoint) ∷
    []

pub the_checks_lem : Hold the_checks
unfolding openings
the_checks_lem = (refl, (refl, (refl, (refl, (refl, (refl, (refl, (refl, (refl, (refl, (refl, (refl, (refl, (refl, (refl, (refl, (refl, (refl, (refl, (refl, (refl, (refl, (refl, (refl, (refl, (refl, (refl, (refl, (refl, (refl, (refl, (refl, (refl, tt)))))))))))))))))))))))))))))))))

-- the words, by check
abbrev pub words : List Example
words =
    (answer_number (Failed (Answers.Transport 0x81)) is 5 + 2 ^ 8 * 1 + 2 ^ 16 * 1 + 2 ^ 32 * 0x0103) ∷
    (map Answers.words_of (Answers.PathBroken 4 ∷ Answers.PathBarred ∷ Answers.KeyVendor 2 1 ∷ Answers.KeyProduct 4 3 ∷ Answers.KeyDevice 13 12 ∷ Answers.KeyRevision 2 0 1 5 ∷ []) is
    (0x0315 ∷ []) ∷ (0x0315 ∷ []) ∷ (0x0114 ∷ []) ∷ (0x0114 ∷ []) ∷ (0x0115 ∷ []) ∷ (0x0116 ∷ []) ∷ []) ∷
    (map Answers.words_of (Answers.ClassNotFour (Some 6) ∷ Answers.NumberCount 1 ∷ Answers.NoOutputPoint 151 ∷ Answers.NoInputPoint 150 ∷ Answers.NoConfig 2 ∷ Answers.ConfigLength 4 2 ∷ []) is
    (0x0117 ∷ []) ∷ (0x0117 ∷ []) ∷ (0x0117 ∷ []) ∷ (0x0117 ∷ []) ∷ (0x0118 ∷ []) ∷ (0x0109 ∷ 2 ∷ []) ∷ []) ∷
    (map Answers.words_of (Answers.OtRpi 999 1000 100000 ∷ Answers.ToRpi 999 1000 100000 ∷ Answers.OtType Multicast ∷ Answers.ToType Null ∷ Answers.OwnerSize 9 8 ∷ Answers.HeartbeatSize 1 ∷ Answers.InputSize 2 3 ∷ []) is
    (0x0111 ∷ []) ∷ (0x0111 ∷ []) ∷ (0x0108 ∷ []) ∷ (0x0108 ∷ []) ∷ (0x0109 ∷ 8 ∷ []) ∷ (0x0109 ∷ 2 ∷ []) ∷ (0x0109 ∷ 3 ∷ []) ∷ []) ∷
    (map Answers.words_of (Answers.TriadInUse ∷ Answers.Owned 150 ∷ Answers.NoStream ∷ Answers.ListenPointToPoint ∷ Answers.Full ∷ []) is
    (0x0100 ∷ []) ∷ (0x0106 ∷ []) ∷ (0x0119 ∷ []) ∷ (0x0108 ∷ []) ∷ (0x0113 ∷ []) ∷ []) ∷
    -- two words: the size is the second
    (answer_number (Failed (Answers.InputSize 2 3)) is 5 + 2 ^ 8 * 1 + 2 ^ 16 * 2 + 2 ^ 32 * 0x0109 + 2 ^ 48 * 3) ∷
    []

pub the_words : Hold words
unfolding openings
the_words = (refl, (refl, (refl, (refl, (refl, (refl, tt))))))

-- 6.14: of two checks that do not hold the first is answered
abbrev pub the_order : List Example
the_order =
    (refused (set (ask 1 0 0 10000 0x4008 10000 0x2003 (0x30 ∷ 1 ∷ points 150)) 34 0x81) start is Failed (Answers.Transport 0x81)) ∷
    (by (0x30 ∷ 1 ∷ keyed 2 0 0 0 0) is Failed Answers.PathBarred) ∷
    (by (keyed 2 13 4 2 0) is Failed (Answers.KeyVendor 2 1)) ∷
    (by (keyed 0 13 0 2 0) is Failed (Answers.KeyDevice 13 12)) ∷
    (by (keyed 2 0 0 0 0 ++ (0x2C ∷ 7 ∷ 0x2C ∷ 8 ∷ [])) is Failed (Answers.KeyVendor 2 1)) ∷
    (by (0x20 ∷ 6 ∷ 0x24 ∷ 6 ∷ 0x2C ∷ 150 ∷ 0x2C ∷ 101 ∷ 0x80 ∷ 1 ∷ 1 ∷ 2 ∷ []) is Failed (Answers.ClassNotFour (Some 6))) ∷
    (refused (ask 1 0 0 999 0x4008 10000 0x2003 (configured 6 (1 ∷ 2 ∷ []))) start is Failed (Answers.NoConfig 2)) ∷
    (having 999 0x2008 10000 0x2003 is Failed (Answers.OtRpi 999 1000 100000)) ∷
    (having 10000 0x4009 10000 0x0003 is Failed (Answers.ToType Null)) ∷
    (having 10000 0x4009 10000 0x2002 is Failed (Answers.OwnerSize 9 8)) ∷
    (refused (ask 1 0 0 10000 0x4008 10000 0x2002 (points 150)) (run opens start) is Failed (Answers.InputSize 2 3)) ∷
    (refused (ask 1 0 0 10000 0x4008 10000 0x2003 (points 150)) (run opens start) is Failed Answers.TriadInUse) ∷
    []

pub the_order_lem : Hold the_order
unfolding openings
the_order_lem = (refl, (refl, (refl, (refl, (refl, (refl, (refl, (refl, (refl, (refl, (refl, (refl, tt))))))))))))
