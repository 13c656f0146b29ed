-- An open that passes every check: the stream that it joins or sends, its ids, where its packets go, its reply, its events.
use Rattle.std.specs.Prelude.{Option, Some, None, cond}
use mathlib.Core.Path.{◌≡◌, refl}
use mathlib.Core.List.{List, [], ◌∷◌, ◌++◌, map}
use mathlib.Core.Bool.{Bool, true, false}
use Prim.Native.Nat.{ℕ, ◌+◌, ◌*◌, ◌^◌}
use lib.ListN.{get_or, length, drop}
use Rattle.wire_rules.specs.Examples.{address}
use Rattle.rules.specs.State
use Rattle.rules.specs.State.{State, Origin, Socket, Configured, content_at, with_table, with_fault, with_next_id}
use Rattle.rules.specs.Answers.{answer_number, answer_bytes}
use Rattle.rules.specs.Events.{event_record}
use Rattle.rules.specs.Setup.{first_id}
use Rattle.rules.specs.Opening.{open_call}
use Rattle.rules.specs.Calls.{Call, run}
use Rattle.rules.proofs.Examples.{ask, told}
use Rattle.rules.proofs.Plant.{plant, path, having, owner, reader, single, listener, opening, side}
use Rattle.rules.proofs.OpenExamples.{with_data_lem}
use Rattle.rules.proofs.Computing.{openings}

abbrev pub at : ℕ → ℕ → Socket
at host port = record { address = host; port = port }

-- the group of host 2, which opens arrive at
abbrev pub group : ℕ
group = address 239 192 1 32

-- what comes of an open from address 8 at 1000, behind others
abbrev pub last : List (List ℕ) → List ℕ → List (ℕ × ℕ × Socket × ℕ × Option ℕ)
last before request = drop (length before) (map side (run (map opening (before ++ (request ∷ []))) plant).table)

-- an owner's stream of input 101 at 10 ms: its ids are 5 and 6
abbrev pub stream : List (List ℕ)
stream = owner 1 101 10000 ∷ []

-- a listener whose stream is gone, which no run leaves
abbrev pub orphan : State
orphan = with_table (drop 1 (run (map opening (stream ++ (listener 2 101 10000 ∷ []))) plant).table) plant

pub streams :
    -- 7.1: a multicast open joins, a point-to-point one does not
    (last stream (reader 2 101 10000) ≡ (7, 6, at group 2222, 10000, None) ∷ []) ×
    (last stream (single 2 101 10000) ≡ (7, 77, at 8 2222, 10000, Some 1000) ∷ []) ×
    -- 7.2: a point-to-point connection is no stream
    (last (single 1 101 10000 ∷ []) (reader 2 101 10000) ≡ (6, 7, at group 2222, 10000, Some 1000) ∷ []) ×
    -- 7.3: nor is a listener
    (map side (run (opening (reader 3 101 10000) ∷ []) orphan).table ≡
    (7, 6, at group 2222, 10000, None) ∷ (5, 6, at group 2222, 10000, Some 1000) ∷ []) ×
    -- 7.4: nor is one of another input
    (last stream (reader 2 102 10000) ≡ (7, 8, at group 2222, 10000, Some 1000) ∷ []) ×
    -- 7.5: nor is one at another RPI
    (last stream (reader 2 101 20000) ≡ (7, 8, at group 2222, 20000, Some 1000) ∷ []) ×
    -- 7.6, 7.10: a listener takes any RPI, and has it then
    (last stream (listener 2 101 20000) ≡ (7, 6, at group 2222, 10000, None) ∷ []) ×
    -- 7.7: of two streams the first
    (last (stream ++ (reader 2 101 20000 ∷ [])) (listener 3 101 20000) ≡ (9, 6, at group 2222, 10000, None) ∷ [])
unfolding openings
streams = (refl, refl, refl, refl, refl, refl, refl, refl)

-- an open that arrives at host 9, whose class 1 port is 3333, perhaps with a T→O socket address
abbrev pub away : Bool → ℕ → Origin
away given host = record { peer = 8; local = 0x0A000009; mask = 0xFF000000; socket = cond given (Some (at host 4444)) None; ioport = 3333 }

abbrev pub away_open : Bool → ℕ → List ℕ → Call
away_open given host request = Call.Open 1000 0x54 request (away given host) 26

abbrev pub destinations : List Call → List Socket
destinations calls = map (λ c. c.fixed.dest) (run calls plant).table

pub where_packets_go :
    -- 7.9: a joiner takes the stream's group and port
    (destinations (opening (owner 1 101 10000) ∷ away_open true 0x01020304 (reader 2 101 10000) ∷ []) ≡ at group 2222 ∷ at group 2222 ∷ []) ×
    -- 7.13: a new stream goes to its own host's group at the class 1 port
    (destinations (away_open true 0x01020304 (reader 1 101 10000) ∷ []) ≡ at (address 239 192 2 0) 3333 ∷ []) ×
    -- 7.18, 7.19: point-to-point goes to the given address, to the peer at the given port, to the peer
    (destinations (away_open true 0x01020304 (single 1 101 10000) ∷ []) ≡ at 0x01020304 4444 ∷ []) ×
    (destinations (away_open true 0 (single 1 101 10000) ∷ []) ≡ at 8 4444 ∷ []) ×
    (destinations (away_open false 0x01020304 (single 1 101 10000) ∷ []) ≡ at 8 3333 ∷ [])
unfolding openings
where_packets_go = (refl, refl, refl, refl, refl)

-- the O→T and T→O ids in the table, and the id that is next
abbrev pub ids : State → List (ℕ × ℕ) × ℕ
ids st = (map (λ c. (c.fixed.otid.0, c.fixed.toid.0)) st.table, st.next_id)

pub ids_in_turn :
    -- 7.8, 7.14, 7.15: two for a new stream, one for a joiner, one for point-to-point
    (ids (run (map opening (owner 1 101 10000 ∷ reader 2 101 10000 ∷ single 3 101 10000 ∷ reader 4 102 10000 ∷ [])) plant) ≡
    ((5, 6) ∷ (7, 6) ∷ (8, 77) ∷ (9, 10) ∷ [], 11)) ×
    -- 7.16: the seed with bit 0 set
    (map first_id (0 ∷ 4 ∷ 5 ∷ 0xFFFFFFFF ∷ []) ≡ 1 ∷ 5 ∷ 5 ∷ 0xFFFFFFFF ∷ []) ×
    -- 7.17: 1 comes after the greatest
    (ids (run (opening (reader 1 101 10000) ∷ []) (with_next_id 0xFFFFFFFF plant)) ≡ ((0xFFFFFFFF, 1) ∷ [], 2))
unfolding openings
ids_in_turn = (refl, refl, refl)

-- 7.22, 7.23: all that is kept of an owner of 151 and input 102, which is to time out after 20 ms times 16
pub kept : (run (away_open false 0 (ask 3 77 2 20000 0x4008 10000 0x4003 (path 151 102)) ∷ []) plant).table ≡
    record {
      fixed =
          record {
            kind = State.Owner;
            triad = record { serial = 3; vendor = 1; originator = 1 };
            originator = 8;
            otid = record { 0 = 5 };
            toid = record { 0 = 77 };
            otrpi = 20000;
            multiplier = 2;
            torpi = 10000;
            input = 4;
            output = 3;
            dest = at 8 3333;
            multicast = false;
            local = 0x0A000009;
          };
      heard = record { until = 321000; any = false; sequence = 0; anycip = false; cip = 0 };
      sent = record { sequence = 0; cip = 0; due = Some 1000 };
    } ∷ []
unfolding openings
kept = refl

-- a listener of the owner's stream, which asks for 50 and 20 ms, at host 9
abbrev pub told_to : List ℕ → ℕ × List ℕ
told_to request =
    let a = (open_call 1000 0x54 request (away false 0) 26 (run (map opening stream) plant)).0 in
    (answer_number a, answer_bytes a)

pub replies :
    -- 7.24, 7.25: ids, triad, the O→T RPI as asked and the T→O RPI of the stream; that it is multicast, its port and group
    (told_to (ask 2 0 0 50000 0x4000 20000 0x2003 (path 199 101)) ≡ (
      2 ^ 8 + 2 ^ 16 * 2222 + 2 ^ 32 * group,
      7 ∷ 0 ∷ 0 ∷ 0 ∷ 6 ∷ 0 ∷ 0 ∷ 0 ∷ 2 ∷ 0 ∷ 1 ∷ 0 ∷ 1 ∷ 0 ∷ 0 ∷ 0 ∷ 0x50 ∷ 0xC3 ∷ 0 ∷ 0 ∷ 0x10 ∷ 0x27 ∷ 0 ∷ 0 ∷ 0 ∷ 0 ∷ [],
    )) ×
    -- point-to-point: the originator's id, and no socket
    (told_to (single 2 101 20000) ≡
    (0, 7 ∷ 0 ∷ 0 ∷ 0 ∷ 77 ∷ 0 ∷ 0 ∷ 0 ∷ 2 ∷ 0 ∷ 1 ∷ 0 ∷ 1 ∷ 0 ∷ 0 ∷ 0 ∷ 0x10 ∷ 0x27 ∷ 0 ∷ 0 ∷ 0x20 ∷ 0x4E ∷ 0 ∷ 0 ∷ 0 ∷ 0 ∷ []))
unfolding openings
replies = (refl, refl)

-- after an open with configuration data for instance 5, or none
abbrev pub configured : List ℕ → State
configured segments = run (opening (with_data_lem 5 segments) ∷ []) plant

pub configuration_stored :
    -- 7.26: Opened, then Config of instance 5 and two bytes, which are in the assembly
    (told (configured (0x80 ∷ 1 ∷ 7 ∷ 8 ∷ [])) ≡ 1 ∷ 4 ∷ []) ×
    (get_or (configured (0x80 ∷ 1 ∷ 7 ∷ 8 ∷ [])).events.waiting 1 [] ≡ event_record (Configured 5 2)) ×
    ((content_at (configured (0x80 ∷ 1 ∷ 7 ∷ 8 ∷ [])) 2).bytes ≡ 7 ∷ 8 ∷ []) ×
    -- 7.27: without data, neither
    (told (configured []) ≡ 1 ∷ []) ×
    ((content_at (configured []) 2).bytes ≡ 0 ∷ 0 ∷ [])
unfolding openings
configuration_stored = (refl, refl, refl, refl, refl)

-- 7.28: an accepted open clears the fault mark, a refused one does not
pub fault_cleared : ((run (opening (reader 1 101 10000) ∷ []) (with_fault true plant)).fault ≡ false) ×
    ((run (opening (having 999 0x4008 10000 0x2003) ∷ []) (with_fault true plant)).fault ≡ true)
unfolding openings
fault_cleared = (refl, refl)
