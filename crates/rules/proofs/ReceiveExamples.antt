-- Frames in, computed: chapter 9 of the rules, each line with its rule.
use Rattle.std.specs.Prelude.{Some, None}
use mathlib.Core.Path.{◌≡◌, refl}
use mathlib.Core.List.{List, [], ◌∷◌, ◌++◌, map}
use mathlib.Core.Bool.{true, false}
use Prim.Native.Nat.{ℕ, ◌<◌}
use lib.ListN.{length}
use borrow.Author.Tests.{lt-leb}
use Rattle.base_cells.specs.Numbers.{le, le_of, le_bytes}
use Rattle.wire_rules.specs.Items.{Items, well_formed, broken, start_of, step_at, items_from, items_of}
use Rattle.wire_rules.specs.Frames.{io_of_items, io_of, io_frame}
use Rattle.wire_rules.specs.Examples.{Example, ◌is◌, Hold}
use Rattle.rules.specs.Lists.{maybe}
use Rattle.rules.specs.State.{Owner, State, with_fault}
use Rattle.rules.specs.Answers.{Done}
use Rattle.rules.specs.Events.{event_record, oldest_gone, appended, pushed, pushed_all}
use Rattle.rules.specs.Receiving.{frame_of, newer, recorded, hear, taken, changes, deliver, received, receive_answer, receive_effect, receive_call}
use Rattle.rules.specs.Host.{output_answer, output_effect, output_call}
use Rattle.rules.specs.Checks.{place_of}
use Rattle.rules.proofs.Small.{party_at, party, heard, unheard, sending, conn, holding, line, two, output, heards, untils, told}

-- a frame from address 8: time, O→T id, sequence, payload
abbrev pub says : ℕ → ℕ → ℕ → List ℕ → State → State
says t id n payload st = received t 8 (record { id = record { 0 = id }; sequence = n; payload = payload }) st

-- a payload: CIP sequence, header, data
abbrev pub io : ℕ → ℕ → List ℕ → List ℕ
io cip header bytes = le_bytes 2 cip ++ le_bytes 4 header ++ bytes

-- the owner's first frame at 2000: sequence 5, CIP sequence 1, run, AA BB
abbrev pub running : State
running = says 2000 5 5 (io 1 1 (0xAA ∷ 0xBB ∷ [])) two

-- the same after the host read the output
abbrev pub seen : State
seen = (output_call 150 3 running).1

-- two connections of one id and address
abbrev pub twins : State
twins = line (conn (party Owner 5 8) (unheard 80000) (sending 0 0 (Some 0)) ∷ conn (party Owner 5 8) (unheard 80000) (sending 0 0 None) ∷ [])

-- an owner whose output is a place past the setup's list
abbrev pub adrift : State
adrift = line (conn (party_at 3 Owner 5 8) (unheard 80000) (sending 0 0 None) ∷ [])

abbrev pub whose_frame : List Example
whose_frame =
    -- 9.1: O→T id 7 at address 8 is the second connection; of two, the first; O→T id 6 is nobody's, it is a T→O id
    (untils (says 1000 7 1 [] two) is 80000 ∷ 81000 ∷ []) ∷
    (untils (says 1000 5 1 [] twins) is 81000 ∷ 80000 ∷ []) ∷
    (says 1000 6 1 (io 1 1 (1 ∷ 2 ∷ [])) two is two) ∷
    -- 9.2: nor is id 5 from another address
    (received 1000 9 (record { id = record { 0 = 5 }; sequence = 1; payload = io 1 1 (1 ∷ 2 ∷ []) }) two is two) ∷
    []

pub whose_frame_lem : Hold whose_frame
unfolding received hear newer recorded taken pushed_all le_bytes le le_of
whose_frame_lem = (refl, (refl, (refl, (refl, tt))))

abbrev pub liveness : List Example
liveness =
    -- 9.4: the first sequence is free
    (heards (says 2000 5 0 [] two) is heard 82000 true 0 false 0 ∷ unheard 80000 ∷ []) ∷
    (heards (says 2000 5 0x90000000 [] two) is heard 82000 true 0x90000000 false 0 ∷ unheard 80000 ∷ []) ∷
    -- 9.5: a frame that is not newer changes nothing: the same sequence, one before, half way round
    (says 3000 5 5 (io 2 0 (1 ∷ 2 ∷ [])) running is running) ∷
    (says 3000 5 4 (io 2 0 (1 ∷ 2 ∷ [])) running is running) ∷
    (says 3000 5 0x80000005 (io 2 0 (1 ∷ 2 ∷ [])) running is running) ∷
    -- 9.6: a newer one is recorded: 3000 and the timeout, of which the multiplier is a part after every frame
    (heards (says 3000 5 6 (io 2 0 (1 ∷ 2 ∷ [])) running) is heard 83000 true 6 true 2 ∷ unheard 80000 ∷ []) ∷
    -- a payload of no use too: empty, of the wrong length, of a repeated CIP sequence, a heartbeat's
    (heards (says 3000 5 6 [] running) is heard 83000 true 6 true 1 ∷ unheard 80000 ∷ []) ∷
    (heards (says 3000 5 6 (io 2 1 (1 ∷ [])) running) is heard 83000 true 6 true 2 ∷ unheard 80000 ∷ []) ∷
    (heards (says 3000 5 6 (io 1 1 (1 ∷ 2 ∷ [])) running) is heard 83000 true 6 true 1 ∷ unheard 80000 ∷ []) ∷
    (heards (says 3000 7 6 (9 ∷ 9 ∷ []) two) is unheard 80000 ∷ heard 83000 true 6 false 0 ∷ []) ∷
    -- the time is the one given, of a clock that went back too
    (heards (says 1000 5 6 [] running) is heard 81000 true 6 true 1 ∷ unheard 80000 ∷ []) ∷
    []

pub live_by_frames : Hold liveness
unfolding received hear newer recorded taken changes deliver pushed_all pushed appended oldest_gone event_record le_bytes le le_of
live_by_frames = (refl, (refl, (refl, (refl, (refl, (refl, (refl, (refl, (refl, (refl, (refl, tt)))))))))))

abbrev pub cip_sequence : List Example
cip_sequence =
    -- 9.8: the first CIP sequence is free, 0 too; after it any other is taken, a smaller one too
    (output (says 2000 5 1 (io 0 1 (1 ∷ 2 ∷ [])) two) is holding (1 ∷ 2 ∷ []) true true) ∷
    (output (says 3000 5 6 (io 0 1 (1 ∷ 2 ∷ [])) running) is holding (1 ∷ 2 ∷ []) true true) ∷
    -- a repeated one is not
    (output (says 3000 5 6 (io 1 0 (1 ∷ 2 ∷ [])) running) is holding (0xAA ∷ 0xBB ∷ []) true true) ∷
    -- 9.9: it counts before header and length are looked at: 7 with a byte too few, then 7 with all
    (output (says 3000 5 2 (io 7 1 (1 ∷ 2 ∷ [])) (says 2000 5 1 (io 7 1 (1 ∷ [])) two)) is holding (0 ∷ 0 ∷ []) false false) ∷
    -- 9.7: two bytes are one, little-endian; one byte is none
    (heards (says 2000 5 1 (7 ∷ 1 ∷ []) two) is heard 82000 true 1 true 0x0107 ∷ unheard 80000 ∷ []) ∷
    (heards (says 2000 5 1 (7 ∷ []) two) is heard 82000 true 1 false 0 ∷ unheard 80000 ∷ []) ∷
    []

pub cip_sequence_lem : Hold cip_sequence
unfolding received hear newer recorded taken changes deliver pushed_all pushed appended oldest_gone event_record le_bytes le le_of
cip_sequence_lem = (refl, (refl, (refl, (refl, (refl, (refl, tt))))))

-- what the owner's first frame leaves in the output: header, data
abbrev pub first : ℕ → List ℕ → State
first header bytes = says 2000 5 1 (io 1 header bytes) two

abbrev pub data_and_run : List Example
data_and_run =
    -- 9.10: 6 bytes and as many as the output has, no more and no fewer; a listener's are nobody's data
    (output (first 1 (1 ∷ 2 ∷ [])) is holding (1 ∷ 2 ∷ []) true true) ∷
    (output (first 1 (1 ∷ 2 ∷ 3 ∷ [])) is holding (0 ∷ 0 ∷ []) false false) ∷
    (output (first 1 (1 ∷ [])) is holding (0 ∷ 0 ∷ []) false false) ∷
    (output (says 2000 7 1 (io 1 1 (1 ∷ 2 ∷ [])) two) is holding (0 ∷ 0 ∷ []) false false) ∷
    -- and an output that the setup does not have takes none
    ((says 2000 5 1 (io 1 1 []) adrift).events is adrift.events) ∷
    -- 9.11: run is bit 0 of the header, and no other
    (output (first 2 (1 ∷ 2 ∷ [])) is holding (1 ∷ 2 ∷ []) false true) ∷
    (output (first 3 (1 ∷ 2 ∷ [])) is holding (1 ∷ 2 ∷ []) true true) ∷
    (output (first 0x01010100 (1 ∷ 2 ∷ [])) is holding (1 ∷ 2 ∷ []) false true) ∷
    -- 9.12: a frame without it clears run, and its data is taken
    (output (says 3000 5 6 (io 2 0 (0xAA ∷ 0xBB ∷ [])) running) is holding (0xAA ∷ 0xBB ∷ []) false true) ∷
    (output (says 3000 5 6 (io 2 0 (1 ∷ 2 ∷ [])) running) is holding (1 ∷ 2 ∷ []) false true) ∷
    []

pub data_and_run_lem : Hold data_and_run
unfolding received hear newer recorded taken changes deliver pushed_all pushed appended oldest_gone event_record le_bytes le le_of
data_and_run_lem = (refl, (refl, (refl, (refl, (refl, (refl, (refl, (refl, (refl, (refl, tt))))))))))

abbrev pub output_told : List Example
output_told =
    -- 9.13: a change of the data, and of run alone, is told; the same again is not
    (told (says 3000 5 6 (io 2 1 (0xAA ∷ 0xBC ∷ [])) seen) is 5 ∷ 5 ∷ []) ∷
    (told (says 3000 5 6 (io 2 0 (0xAA ∷ 0xBB ∷ [])) seen) is 5 ∷ 5 ∷ []) ∷
    (told (says 3000 5 6 (io 2 1 (0xAA ∷ 0xBB ∷ [])) seen) is 5 ∷ []) ∷
    (output (says 3000 5 6 (io 2 1 (0xAA ∷ 0xBB ∷ [])) seen) is holding (0xAA ∷ 0xBB ∷ []) true false) ∷
    -- 9.14: once until it is read
    (told (says 3000 5 6 (io 2 1 (0xAA ∷ 0xBC ∷ [])) running) is 5 ∷ []) ∷
    -- it tells the instance of the output
    (map (λ e. le 2 e 4) running.events.waiting is 150 ∷ []) ∷
    -- 9.15: a frame touches nothing else, the fault mark neither
    ((says 3000 5 6 (io 2 0 (0xAA ∷ 0xBC ∷ [])) (with_fault true running)).fault is true) ∷
    []

pub output_told_lem : Hold output_told
unfolding received hear newer recorded taken changes deliver pushed_all pushed appended oldest_gone event_record le_bytes le le_of output_call output_answer output_effect place_of
output_told_lem = (refl, (refl, (refl, (refl, (refl, (refl, (refl, tt)))))))

abbrev pub of_no_use : List Example
of_no_use =
    -- 9.15: no bytes, a list that breaks, one item: nothing changes, and that is a yes
    (receive_call 2000 8 [] two is (Done, two)) ∷
    (receive_call 2000 8 (2 ∷ 0 ∷ 2 ∷ 0x80 ∷ 8 ∷ 0 ∷ 5 ∷ []) two is (Done, two)) ∷
    (receive_call 2000 8 (1 ∷ 0 ∷ 0xB1 ∷ 0 ∷ 0 ∷ 0 ∷ []) two is (Done, two)) ∷
    -- a frame of two items is what it says
    (receive_call 2000 8 (io_frame 5 1 1 (le_bytes 4 1 ++ (1 ∷ 2 ∷ []))) two is (Done, first 1 (1 ∷ 2 ∷ []))) ∷
    []

pub of_no_use_lem : Hold of_no_use
unfolding receive_call receive_answer receive_effect io_of io_frame start_of step_at items_from items_of received hear newer recorded taken changes deliver pushed_all pushed appended oldest_gone event_record le_bytes le le_of
of_no_use_lem = (refl, (refl, (refl, (refl, tt))))

-- nor does a frame over size, whatever it holds
pub over_size_ignored : (t from : ℕ) (bytes : List ℕ) (st : State) → 65536 < length bytes → receive_effect t from bytes st ≡ st
unfolding receive_effect io_of
over_size_ignored t from bytes st h = by (items_of bytes)
  where
    by : (l : Items) → maybe st (λ f. received t from f st) (frame_of bytes (io_of_items bytes l)) ≡ st
    by (broken o) = refl
    by (well_formed l) = rw (lt-leb _ _ h)
