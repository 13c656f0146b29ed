-- The host's calls, events and records, computed: chapter 12 of the rules, each line with its rule.
use Rattle.std.specs.Prelude.{None}
use mathlib.Core.Path.{refl}
use mathlib.Core.List.{List, [], ◌∷◌, ◌++◌, map}
use mathlib.Core.Bool.{Bool, true, false}
use Prim.Native.Nat.{ℕ}
use lib.ListN.{get_or, replicate}
use Rattle.base_cells.specs.Numbers.{le_bytes, le, le_of}
use Rattle.wire_rules.specs.Examples.{Example, ◌is◌, Hold}
use Rattle.rules.specs.State.{Kind, Owner, InputOnly, ListenOnly, Info, Opened, Closed, TimedOut, Configured, OutputChanged, Events, content_at, with_counters, with_events}
use Rattle.rules.specs.Answers.{Wrote, Refused, NoAssembly, TooLong, NoRoom, NothingThere}
use Rattle.rules.specs.Events.{info_of, info_record, event_record, oldest_gone, appended, pushed, pushed_all}
use Rattle.rules.specs.Receiving.{newer, recorded, hear, taken, changes, deliver, received}
use Rattle.rules.specs.Checks.{place_of}
use Rattle.rules.specs.Host.{filled, set_input_answer, set_input_effect, set_input_call, output_answer, output_effect, output_call, assembly_answer, next_event_answer, next_event_effect, next_event_call, connection_bytes, connections_answer, stats_answer}
use Rattle.rules.specs.Calls.{Call, next}
use Rattle.rules.proofs.Examples.{setup}
use Rattle.rules.proofs.Small.{party, holding, counting, line, two, output}
use Rattle.rules.proofs.ReceiveExamples.{running}

abbrev pub data_calls : List Example
data_calls =
    -- 12.1: set_input fills the input; 12.2: shorter data leaves the rest zero, and marks stay
    (content_at (set_input_call 101 (9 ∷ []) two).1 1 is holding (9 ∷ []) false false) ∷
    (filled 4 (7 ∷ 8 ∷ []) (holding (1 ∷ 2 ∷ 3 ∷ 4 ∷ []) true true) is holding (7 ∷ 8 ∷ 0 ∷ 0 ∷ []) true true) ∷
    -- longer data, and an instance that is no input, change nothing
    (set_input_call 101 (1 ∷ 2 ∷ []) two is (Refused TooLong, two)) ∷
    (set_input_call 150 [] two is (Refused NoAssembly, two)) ∷
    -- an instance is not cut to 16 bits
    (set_input_call 65637 [] two is (Refused NoAssembly, two)) ∷
    -- 12.3: output gives the run byte and the data; 12.4: an accepted read re-arms the event, a refused one does not
    ((output_call 150 3 running).0 is Wrote (1 ∷ 0xAA ∷ 0xBB ∷ [])) ∷
    (output (output_call 150 3 running).1 is holding (0xAA ∷ 0xBB ∷ []) true false) ∷
    (output_call 150 2 running is (Refused NoRoom, running)) ∷
    (output_call 101 3 running is (Refused NoAssembly, running)) ∷
    -- 12.5: assembly gives the data of kind 1 input, 2 output, 3 configuration, and re-arms nothing
    (assembly_answer 2 150 2 running is Wrote (0xAA ∷ 0xBB ∷ [])) ∷
    (assembly_answer 1 101 1 running is Wrote (0 ∷ [])) ∷
    (assembly_answer 3 5 2 running is Wrote (0 ∷ 0 ∷ [])) ∷
    (assembly_answer 3 150 2 running is Refused NoAssembly) ∷
    (assembly_answer 0 101 1 running is Refused NoAssembly) ∷
    (assembly_answer 4 5 2 running is Refused NoAssembly) ∷
    (next (Call.ReadAssembly 2 150 3) running is running) ∷
    []

pub data_calls_lem : Hold data_calls
unfolding set_input_call set_input_answer set_input_effect output_call output_answer output_effect assembly_answer place_of received hear newer recorded taken changes deliver pushed_all pushed appended oldest_gone event_record le_bytes le le_of
data_calls_lem = (refl, (refl, (refl, (refl, (refl, (refl, (refl, (refl, (refl, (refl, (refl, (refl, (refl, (refl, (refl, (refl, tt))))))))))))))))

-- a list with a number of old events behind a first one
abbrev pub waiting_for : ℕ → Events
waiting_for n = record { gone = 1023; waiting = (7 ∷ []) ∷ replicate n [] }

abbrev pub event_list : List Example
event_list =
    -- 12.6: the oldest event is read first and leaves the list; a refused read leaves it
    (next_event_call 1 (with_events (waiting_for 1) two) is (Wrote (7 ∷ []), with_events (record { gone = 0; waiting = [] ∷ [] }) two)) ∷
    (next_event_call 0 (with_events (waiting_for 1) two) is (Refused NoRoom, with_events (waiting_for 1) two)) ∷
    (next_event_call 0 two is (Refused NothingThere, two)) ∷
    -- 12.7: a 1,024th event is kept with all before; a 1,025th is kept too, and the oldest goes
    (get_or (pushed (OutputChanged 150) (waiting_for 1022)).waiting 0 [] is 7 ∷ []) ∷
    (get_or (pushed (OutputChanged 150) (waiting_for 1023)).waiting 0 [] is []) ∷
    (get_or (get_or (pushed (OutputChanged 150) (waiting_for 1023)).waiting 1023 []) 0 0 is 5) ∷
    -- 12.14: the events of one call stand in their order
    (map (λ e. get_or e 4 0) (pushed_all (OutputChanged 8 ∷ OutputChanged 9 ∷ []) (waiting_for 0)).waiting is 0 ∷ 8 ∷ 9 ∷ []) ∷
    []

pub event_list_lem : Hold event_list
unfolding next_event_call next_event_answer next_event_effect oldest_gone appended pushed pushed_all event_record le_bytes
event_list_lem = (refl, (refl, (refl, (refl, (refl, (refl, (refl, tt)))))))

-- what is told of a connection, every byte another
abbrev pub info : Kind → Bool → Info
info kind multicast =
    record {
      kind = kind;
      originator = 0x04030201;
      otrpi = 0x08070605;
      torpi = 0x0C0B0A09;
      input = 0x1615;
      inputsize = 0x1817;
      output = 0x1A19;
      outputsize = 0x1C1B;
      multicast = multicast;
      otid = record { 0 = 0x100F0E0D };
      toid = record { 0 = 0x14131211 };
    }

-- its bytes from the fourth on
abbrev pub info_bytes : List ℕ
info_bytes =
    0x01 ∷ 0x02 ∷ 0x03 ∷ 0x04 ∷ 0x05 ∷ 0x06 ∷ 0x07 ∷ 0x08 ∷ 0x09 ∷ 0x0A ∷ 0x0B ∷ 0x0C ∷ 0x0D ∷ 0x0E ∷ 0x0F ∷ 0x10 ∷ 0x11 ∷ 0x12 ∷ 0x13 ∷ 0x14 ∷
    0x15 ∷ 0x16 ∷ 0x17 ∷ 0x18 ∷ 0x19 ∷ 0x1A ∷ 0x1B ∷ 0x1C ∷ []

abbrev pub records : List Example
records =
    -- 12.8: the record of a connection, byte by byte, kinds 1, 2, 3; 12.9: what it tells, 1 opened, 2 closed, 3 timed out
    (event_record (Opened (info Owner true)) is 1 ∷ 1 ∷ 1 ∷ 0 ∷ info_bytes) ∷
    (event_record (Closed (info InputOnly false)) is 2 ∷ 2 ∷ 0 ∷ 0 ∷ info_bytes) ∷
    (event_record (TimedOut (info ListenOnly true)) is 3 ∷ 3 ∷ 1 ∷ 0 ∷ info_bytes) ∷
    -- 12.10: a configuration that was stored: 4, instance, length; an output that changed: 5, instance
    (event_record (Configured 0x0201 0x0403) is 4 ∷ 0 ∷ 0 ∷ 0 ∷ 1 ∷ 2 ∷ 3 ∷ 4 ∷ replicate 24 0) ∷
    (event_record (OutputChanged 0x0201) is 5 ∷ 0 ∷ 0 ∷ 0 ∷ 1 ∷ 2 ∷ replicate 26 0) ∷
    -- 12.11: assemblies by instance and size; a heartbeat's connection has no output
    ((info_of setup (party Owner 5 8)).output is 150) ∷
    ((info_of setup (party Owner 5 8)).outputsize is 2) ∷
    ((info_of setup (party Owner 5 8)).input is 101) ∷
    ((info_of setup (party Owner 5 8)).inputsize is 1) ∷
    ((info_of setup (party ListenOnly 5 8)).output is 0) ∷
    ((info_of setup (party InputOnly 5 8)).outputsize is 0) ∷
    []

pub the_records : Hold records
unfolding event_record info_record info_of le_bytes
the_records = (refl, (refl, (refl, (refl, (refl, (refl, (refl, (refl, (refl, (refl, (refl, tt)))))))))))

abbrev pub lists : List Example
lists =
    -- 12.12: connections gives the record of each, with 0 for what it tells, in table order
    (connections_answer 64 two is
    Wrote (
    (0 ∷ 1 ∷ 1 ∷ 0 ∷ le_bytes 4 8 ++ le_bytes 4 10000 ++ le_bytes 4 2000 ++ le_bytes 4 5 ++ le_bytes 4 6 ++ le_bytes 2 101 ++ le_bytes 2 1 ++ le_bytes 2 150 ++ le_bytes 2 2) ++
    (0 ∷ 3 ∷ 1 ∷ 0 ∷ le_bytes 4 8 ++ le_bytes 4 10000 ++ le_bytes 4 2000 ++ le_bytes 4 7 ++ le_bytes 4 6 ++ le_bytes 2 101 ++ le_bytes 2 1 ++ le_bytes 2 0 ++ le_bytes 2 0))) ∷
    (connections_answer 63 two is Refused NoRoom) ∷
    (connections_answer 0 (line []) is Wrote []) ∷
    -- 12.12: stats gives produced, late and the greatest lateness, 8 bytes each, little-endian
    (stats_answer 24 (with_counters (counting 0x0201 0x0403 0x0605) two) is
    Wrote (1 ∷ 2 ∷ 0 ∷ 0 ∷ 0 ∷ 0 ∷ 0 ∷ 0 ∷ 3 ∷ 4 ∷ 0 ∷ 0 ∷ 0 ∷ 0 ∷ 0 ∷ 0 ∷ 5 ∷ 6 ∷ 0 ∷ 0 ∷ 0 ∷ 0 ∷ 0 ∷ 0 ∷ [])) ∷
    (stats_answer 23 two is Refused NoRoom) ∷
    -- 12.13: what only tells changes nothing
    (next (Call.Connections 64) two is two) ∷
    (next (Call.Stats 24) two is two) ∷
    (next (Call.Deadline 8) two is two) ∷
    (next (Call.OpenRefusal 0x54 [] 10) two is two) ∷
    (next (Call.Message 0 0 [] 516 None) (with_events (waiting_for 1) two) is with_events (waiting_for 1) two) ∷
    []

pub the_lists : Hold lists
unfolding connections_answer connection_bytes stats_answer info_record info_of le_bytes
the_lists = (refl, (refl, (refl, (refl, (refl, (refl, (refl, (refl, (refl, (refl, tt))))))))))
