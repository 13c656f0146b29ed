-- The history on examples: a day's word, and that each premise of the theorems is met.
use Rattle.std.specs.Prelude.{refl, List, [], ◌∷◌, ◌++◌, map, true, false, ℕ, length, Option, Some, None}
use Rattle.wire_rules.specs.declared.ConnectionPath.{ConnectionPath}
use Rattle.base_cells.specs.Numbers.{le, le_of, le_bytes}
use Rattle.base_cells.specs.BigEndian.{bytes_be}
use Rattle.base_cells.specs.Records.{enc_fields}
use Rattle.wire_rules.specs.Items.{start_of, step_at, items_from, items_of}
use Rattle.wire_rules.specs.Frames.{io_of, io_frame}
use Rattle.wire_rules.specs.Segments.{port_at, logical_at, key_of, key_at, data_at, seg_at, segs_from, segs_of}
use Rattle.wire_rules.specs.Segments
use Rattle.wire_rules.specs.ConnectionPath.{gather, last, connection_path, path_of}
use Rattle.wire_rules.specs.ConnectionPath
use Rattle.wire_rules.specs.Params.{params_at}
use Rattle.wire_rules.specs.Opens.{triad_at, way_at, place_at, fields_of, open_with, width_of, open_of, close_of}
use Rattle.rules.specs.Setup.{setup_ok, fresh}
use Rattle.rules.specs.Events.{info_of, info_record, event_record, oldest_gone, appended, pushed, pushed_all}
use Rattle.wire_rules.specs.Replies.{open_reply, triad_reply}
use Rattle.rules.specs.Checks.{must, and_then, transport_check, path_check, revision_ok, key_stop, key_check, kind_of, place_of, points_check, roles_of, config_check, rpi_check, type_check, ot_size_check, to_size_check, triad_check, owner_check, stream_of, stream_check, room_check, plan_of, verdict}
use Rattle.rules.specs.Opening.{after_id, point_dest, group_dest, side_of, new_fixed, new_heard, new_conn, opened, verdict_of, reply_of, open_answer, open_effect, open_call}
use Rattle.rules.specs.Removal.{removed, closed, close_answer, close_effect, close_call, expired_first, expire_effect, expire_answer, expire_call, deadline_answer}
use Rattle.rules.specs.Receiving.{newer, recorded, hear, taken, changes, deliver, received, receive_answer, receive_effect, receive_call}
use Rattle.rules.specs.Producing.{sent, frame_sent, packet, packets, counters, produce_answer, produce_effect, produce_call}
use Rattle.rules.specs.Host.{set_input_answer, set_input_effect, set_input_call, output_answer, output_effect, output_call, next_event_answer, next_event_effect, next_event_call}
use Rattle.wire_rules.specs.Examples.{Example, ◌is◌, Hold}
use Rattle.rules.specs.Answers.{answer_number, is_yes}
use Rattle.rules.specs.Lists.{maybe, is_some}
use Rattle.rules.specs.State.{is_output}
use Rattle.rules.specs.Receiving.{Frame, frame_of}
use Rattle.rules.specs.declared.Event.TheVariants.{Opened, Closed, TimedOut, Configured, OutputChanged}
use Rattle.rules.specs.Calls.{Call, answer, run}
use Rattle.rules.proofs.Examples.{setup, start, heard, opens, noon, night, ending}
use Rattle.rules_steps.specs.Names.{Triad, Event}
use Rattle.rules_steps.specs.Steps.{log, history}
use Rattle.rules_steps.specs.Told.{told}
use Rattle.rules_lastword.specs.Words
use Rattle.rules_lastword.specs.Words.{Contact, Word, word_of, no_word, in_run, holds, takes, contact_of, early}
use Rattle.rules_lastword.specs.Heard.{asks_as}

-- output 150, at place 0, of 2 bytes: its word after a run from the start
abbrev word : List Call → Word
word cs = history (word_of setup 150 2) (log cs start) no_word

abbrev before : List ℕ
before = 0 ∷ 0 ∷ []

-- an I/O frame taken apart
abbrev taken_apart : List ℕ → Frame
taken_apart bytes = maybe (record { id = record { 0 = 0 }; sequence = 0; payload = [] }) (λ f. f) (frame_of bytes (io_of bytes))

-- what is known of a connection, in short: its id, its address, its timeout, when it was heard
abbrev short : Option Contact → List ℕ
short w = maybe [] (λ m. m.id ∷ m.sender ∷ m.timeout ∷ m.at ∷ []) w

abbrev triad : ℕ → Triad
triad n = record { serial = n; vendor = 1; originator = 1 }

abbrev whose : ℕ → List Call → List ℕ
whose n cs = short (history (contact_of (asks_as (triad n))) (log cs start) None)

abbrev code : Event → ℕ
code (Opened i) = 1
code (Closed i) = 2
code (TimedOut i) = 3
code (Configured n length) = 4
code (OutputChanged n) = 5

-- a frame that says idle
abbrev idle : List ℕ
idle = heard 2 2 0 (0xCC ∷ 0xDD ∷ [])

abbrev day : List Example
day =
    -- few opens
    (history Words.opens (log noon start) 0 is 2) ∷
    (early 2 is true) ∷
    (place_of is_output setup 150 is Some 0) ∷
    -- at noon the output obeys the frame of 2000; its owner is known by the reply's id, its address, its timeout and that time
    (short (word noon).owner is 5 ∷ 8 ∷ 40000 ∷ 2000 ∷ []) ∷
    (in_run (word noon) is true) ∷
    (holds before (word noon) is 0xAA ∷ 0xBB ∷ []) ∷
    -- before any frame: idle, and zeros; the open counts as heard
    (short (word opens).owner is 5 ∷ 8 ∷ 40000 ∷ 1000 ∷ []) ∷
    (in_run (word opens) is false) ∷
    (holds before (word opens) is before) ∷
    -- a frame that says idle is taken, and clears run; one with the last CIP sequence, of another size, or from another address is not
    (takes 2 8 (taken_apart idle) (word noon) is true) ∷
    (in_run (word (noon ++ (Call.Receive 3000 8 idle ∷ []))) is false) ∷
    (holds before (word (noon ++ (Call.Receive 3000 8 idle ∷ []))) is 0xCC ∷ 0xDD ∷ []) ∷
    (takes 2 8 (taken_apart (heard 2 1 0 (0xCC ∷ 0xDD ∷ []))) (word noon) is false) ∷
    (takes 2 8 (taken_apart (heard 2 2 0 (0xCC ∷ []))) (word noon) is false) ∷
    (takes 2 8 (taken_apart (heard 2 2 0 (0xCC ∷ 0xDD ∷ 0xEE ∷ []))) (word noon) is false) ∷
    (takes 2 7 (taken_apart idle) (word noon) is false) ∷
    -- nor is one that is out of order, nor half the sequences ahead; it is not heard either
    (takes 2 8 (taken_apart (heard 1 2 0 (0xCC ∷ 0xDD ∷ []))) (word noon) is false) ∷
    (takes 2 8 (taken_apart (heard 0x80000001 2 0 (0xCC ∷ 0xDD ∷ []))) (word noon) is false) ∷
    (short (word (noon ++ (Call.Receive 3000 8 (heard 1 2 0 (0xCC ∷ 0xDD ∷ [])) ∷ []))).owner is 5 ∷ 8 ∷ 40000 ∷ 2000 ∷ []) ∷
    -- of the header bit 0 alone counts
    (in_run (word (noon ++ (Call.Receive 3000 8 (heard 2 2 3 (0xCC ∷ 0xDD ∷ [])) ∷ []))) is true) ∷
    (in_run (word (noon ++ (Call.Receive 3000 8 (heard 2 2 2 (0xCC ∷ 0xDD ∷ [])) ∷ []))) is false) ∷
    -- a frame of another size is heard all the same
    (short (word (noon ++ (Call.Receive 3000 8 (heard 2 2 0 []) ∷ []))).owner is 5 ∷ 8 ∷ 40000 ∷ 3000 ∷ []) ∷
    -- a close by its owner is a yes, and clears run; the bytes stay
    (is_yes (answer (Call.Close (ending 1) 10) (run noon start)) is true) ∷
    (is_some (word (noon ++ (Call.Close (ending 1) 10 ∷ []))).owner is false) ∷
    (holds before (word (noon ++ (Call.Close (ending 1) 10 ∷ []))) is 0xAA ∷ 0xBB ∷ []) ∷
    -- another's close leaves it
    (is_some (word (noon ++ (Call.Close (ending 2) 10 ∷ []))).owner is true) ∷
    -- silence: not at 42000, at 42001
    (is_some (word (noon ++ (Call.Expire 42000 ∷ []))).owner is true) ∷
    (is_some (word night).owner is false) ∷
    (in_run (word night) is false) ∷
    -- a new owner begins idle, over the bytes that are there
    (in_run (word (night ++ opens)) is false) ∷
    (holds before (word (night ++ opens)) is 0xAA ∷ 0xBB ∷ []) ∷
    -- the display was not heard since its open
    (whose 2 noon is 7 ∷ 7 ∷ 200000 ∷ 1000 ∷ []) ∷
    -- the expiry tells that the display closed, then that the owner timed out
    (map code (told (Call.Expire 42001) (run noon start)) is 2 ∷ 3 ∷ []) ∷
    (map code (told (Call.Expire 42000) (run noon start)) is []) ∷
    []

pub day_holds : Hold day
unfolding fresh setup_ok answer_number le le_of le_bytes bytes_be start_of step_at items_from items_of io_of io_frame port_at logical_at key_of key_at data_at seg_at
    Segments.between Segments.step_at segs_from segs_of gather ConnectionPath.some last ConnectionPath.final connection_path path_of params_at triad_at way_at place_at fields_of
    open_with width_of open_of close_of info_of info_record event_record oldest_gone appended pushed pushed_all open_reply triad_reply enc_fields must and_then
    transport_check path_check revision_ok key_stop key_check kind_of place_of points_check roles_of config_check rpi_check type_check ot_size_check to_size_check
    triad_check owner_check stream_of stream_check room_check plan_of verdict after_id point_dest group_dest side_of new_fixed new_heard new_conn opened verdict_of
    reply_of open_answer open_effect open_call removed closed close_answer close_effect close_call expired_first expire_effect expire_answer expire_call
    deadline_answer newer recorded hear taken changes deliver received receive_answer receive_effect receive_call sent frame_sent packet packets counters
    produce_answer produce_effect produce_call set_input_answer set_input_effect set_input_call output_answer output_effect output_call next_event_answer
    next_event_effect next_event_call
day_holds = (refl, (refl, (refl, (refl, (refl, (refl, (refl, (refl, (refl, (refl, (refl, (refl, (refl, (refl, (refl, (refl, (refl, (refl, (refl, (refl, (refl, (refl, (refl, (refl, (refl, (refl, (refl, (refl, (refl, (refl, (refl, (refl, (refl, (refl, tt))))))))))))))))))))))))))))))))))
