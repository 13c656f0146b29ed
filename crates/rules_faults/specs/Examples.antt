-- No rewinding on examples: a point-to-point connection (serial number 3) whose T→O id is a live stream's is closed, or times out.
use Rattle.std.specs.Prelude.{refl, List, [], ◌∷◌, ◌++◌, map, Bool, true, false, ℕ, Some}
use Rattle.wire_rules.specs.declared.ConnectionPath.{ConnectionPath}
use Rattle.base_cells.specs.Numbers.{le, le_of, le_bytes}
use Rattle.base_cells.specs.BigEndian.{bytes_be}
use Rattle.base_cells.specs.Records.{enc_fields}
use Rattle.wire_rules.specs.Items.{start_of, step_at, items_from, items_of}
use Rattle.wire_rules.specs.Frames.{io_of, io_frame}
use Rattle.wire_rules.specs.Segments.{port_at, logical_at, key_of, key_at, data_at, seg_at, segs_from, segs_of}
use Rattle.wire_rules.specs.Segments
use Rattle.wire_rules.specs.ConnectionPath.{gather, last, connection_path, path_of}
use Rattle.wire_rules.specs.ConnectionPath
use Rattle.wire_rules.specs.Params.{params_at}
use Rattle.wire_rules.specs.Opens.{triad_at, way_at, place_at, fields_of, open_with, width_of, open_of, close_of}
use Rattle.rules.specs.Setup.{setup_ok, fresh}
use Rattle.rules.specs.Events.{info_of, info_record, event_record, oldest_gone, appended, pushed, pushed_all}
use Rattle.wire_rules.specs.Replies.{open_reply, triad_reply}
use Rattle.rules.specs.Checks.{must, and_then, transport_check, path_check, revision_ok, key_stop, key_check, kind_of, place_of, points_check, roles_of, config_check, rpi_check, type_check, ot_size_check, to_size_check, triad_check, owner_check, stream_of, stream_check, room_check, plan_of, verdict}
use Rattle.rules.specs.Opening.{after_id, point_dest, group_dest, side_of, new_fixed, new_heard, new_conn, opened, verdict_of, reply_of, open_answer, open_effect, open_call}
use Rattle.rules.specs.Removal.{removed, closed, close_answer, close_effect, close_call, expired_first, expire_effect, expire_answer, expire_call, deadline_answer, conn_triad}
use Rattle.rules.specs.Receiving.{newer, recorded, hear, taken, changes, deliver, received, receive_answer, receive_effect, receive_call}
use Rattle.rules.specs.Producing.{sent, frame_sent, packet, packets, counters, produce_answer, produce_effect, produce_call}
use Rattle.rules.specs.Host.{set_input_answer, set_input_effect, set_input_call, output_answer, output_effect, output_call, next_event_answer, next_event_effect, next_event_call}
use Rattle.wire_rules.specs.Examples.{Example, ◌is◌, Hold}
use Rattle.rules.specs.Answers.{answer_number, is_yes}
use Rattle.rules.specs.Lists.{find, maybe}
use Rattle.rules.specs.Removal.{expired}
use Rattle.rules.specs.State.{State}
use Rattle.rules.specs.Calls.{Call, answer, run}
use Rattle.rules.proofs.Examples.{start, from, heard, noon, stranger, ending}
use Rattle.rules_steps.specs.Names.{Triad, Conn}

abbrev third : Triad
third = record { serial = 3; vendor = 1; originator = 1 }

abbrev beside : State
beside = run (noon ++ (Call.Open 2000 0x54 stranger (from 9) 26 ∷ Call.Receive 30000 8 (heard 2 2 1 (1 ∷ 2 ∷ [])) ∷ [])) start

-- of each connection: T→O id, multicast, expired at 50,000
abbrev look : Conn → ℕ × Bool × Bool
look c = (c.fixed.toid.0, c.fixed.multicast, expired 50000 c)

abbrev premises : List Example
premises =
    (close_of (ending 3) is Some third) ∷
    (maybe true (λ c. c.fixed.multicast) (find (conn_triad third) beside.table) is false) ∷
    (is_yes (answer (Call.Close (ending 3) 10) beside) is true) ∷
    (map look beside.table is (6, true, false) ∷ (6, true, false) ∷ (6, false, true) ∷ []) ∷
    []

pub premises_met : Hold premises
unfolding fresh setup_ok answer_number le le_of le_bytes bytes_be start_of step_at items_from items_of io_of io_frame port_at logical_at key_of key_at data_at seg_at
    Segments.between Segments.step_at segs_from segs_of gather ConnectionPath.some last ConnectionPath.final connection_path path_of params_at triad_at way_at place_at fields_of
    open_with width_of open_of close_of info_of info_record event_record oldest_gone appended pushed pushed_all open_reply triad_reply enc_fields must and_then
    transport_check path_check revision_ok key_stop key_check kind_of place_of points_check roles_of config_check rpi_check type_check ot_size_check to_size_check
    triad_check owner_check stream_of stream_check room_check plan_of verdict after_id point_dest group_dest side_of new_fixed new_heard new_conn opened verdict_of
    reply_of open_answer open_effect open_call removed closed close_answer close_effect close_call expired_first expire_effect expire_answer expire_call
    deadline_answer newer recorded hear taken changes deliver received receive_answer receive_effect receive_call sent frame_sent packet packets counters
    produce_answer produce_effect produce_call set_input_answer set_input_effect set_input_call output_answer output_effect output_call next_event_answer
    next_event_effect next_event_call
premises_met = (refl, (refl, (refl, (refl, tt))))
