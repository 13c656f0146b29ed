-- DEMAND 3 ON EXAMPLES: the premise is met in the subtle case, and without it the conclusion fails.
use Rattle.std.specs.Prelude.{◌≡◌, refl, List, [], ◌∷◌, ◌++◌, map, true, not, ◌&&◌, ℕ, length}
use Rattle.std.proofs.Common.{sym, ◌∙◌, ap, ap₂}
use Rattle.base_cells.specs.Numbers.{le, le_of, le_bytes}
use Rattle.base_cells.specs.BigEndian.{bytes_be}
use Rattle.base_cells.specs.Records.{enc_fields}
use Rattle.wire_rules.specs.Items.{start_of, step_at, items_from, items_of}
use Rattle.wire_rules.specs.Frames.{io_of, io_frame}
use Rattle.wire_rules.specs.Segments.{port_at, logical_at, key_of, key_at, data_at, seg_at, segs_from, segs_of}
use Rattle.wire_rules.specs.Segments
use Rattle.wire_rules.specs.ConnectionPath.{gather, last, connection_path, path_of}
use Rattle.wire_rules.specs.ConnectionPath
use Rattle.wire_rules.specs.Params.{params_at}
use Rattle.wire_rules.specs.Opens.{triad_at, way_at, place_at, fields_of, open_with, width_of, open_of, close_of}
use Rattle.rules.specs.Answers.{answer_number}
use Rattle.rules.specs.Setup.{setup_ok, fresh}
use Rattle.rules.specs.Events.{info_of, info_record, event_record, oldest_gone, appended, pushed, pushed_all}
use Rattle.wire_rules.specs.Replies.{open_reply, triad_reply}
use Rattle.rules.specs.Checks.{must, and_then, transport_check, path_check, revision_ok, key_stop, key_check, kind_of, place_of, points_check, roles_of, config_check, rpi_check, type_check, ot_size_check, to_size_check, triad_check, owner_check, stream_of, stream_check, room_check, plan_of, verdict}
use Rattle.rules.specs.Opening.{after_id, point_dest, group_dest, side_of, new_fixed, new_heard, new_conn, opened, verdict_of, reply_of, open_answer, open_effect, open_call}
use Rattle.rules.specs.Removal.{removed, closed, close_answer, close_effect, close_call, expired_first, expire_effect, expire_answer, expire_call, deadline_answer, conn_triad}
use Rattle.rules.specs.Receiving.{newer, recorded, hear, taken, changes, deliver, received, receive_answer, receive_effect, receive_call}
use Rattle.rules.specs.Producing.{sent, frame_sent, packet, packets, counters, produce_answer, produce_effect, produce_call}
use Rattle.rules.specs.Host.{set_input_answer, set_input_effect, set_input_call, output_answer, output_effect, output_call, next_event_answer, next_event_effect, next_event_call}
use Rattle.rules.specs.Calls.{Call, next, run}
use Rattle.rules.specs.Lists.{any, keep}
use Rattle.rules_laws.specs.ListLaws.{any_map}
use Rattle.rules.proofs.Examples.{setup, start}
use Rattle.rules.specs.State.{State, triad_is}
use Rattle.rules_steps.specs.Names.{Triad, Conn}
use Rattle.rules_isolation.specs.Survive.{triad_of, in_table}
use Rattle.rules_isolation.specs.Demand.{removes, SameExpiries, other, Independent}
use Rattle.rules_isolation.proofs.Demand.{demand_3}
use Rattle.rules_isolation.specs.Examples.{calls, brief, heartbeat, first, second, pair, told, theirs, triad}

-- what the runs come to: who produces on, which events were told, which triads are there before the expiry, what is left after it
facts :
    (map brief (run calls start).table ≡ (2, 6, 1) ∷ (3, 6, 0) ∷ []) ×
    (told (run first start) ≡ 1 ∷ 1 ∷ 1 ∷ 2 ∷ 3 ∷ 3 ∷ []) ×
    (told (run second start) ≡ 1 ∷ 1 ∷ 1 ∷ 2 ∷ 2 ∷ 3 ∷ []) ×
    (map triad_of (run calls start).table ≡ triad 2 ∷ triad 3 ∷ []) ×
    (map triad_of (run (calls ++ (Call.Receive 30000 7 heartbeat ∷ [])) start).table ≡ triad 2 ∷ triad 3 ∷ []) ×
    ((run first start).table ≡ []) ×
    ((run second start).table ≡ []) ×
    (length (keep (other 7) (run (theirs ++ (Call.Expire 50000 ∷ [])) start).table) ≡ 0) ×
    (length (keep (other 7) (run (theirs ++ (Call.Receive 30000 7 (io_frame 5 1 1 []) ∷ Call.Expire 50000 ∷ [])) start).table) ≡ 1)
unfolding fresh setup_ok answer_number le le_of le_bytes bytes_be start_of step_at items_from items_of io_of io_frame port_at logical_at key_of key_at data_at seg_at
    Segments.between Segments.step_at segs_from segs_of gather ConnectionPath.some last ConnectionPath.final connection_path path_of params_at triad_at way_at place_at fields_of
    open_with width_of open_of close_of info_of info_record event_record oldest_gone appended pushed pushed_all open_reply triad_reply enc_fields must and_then
    transport_check path_check revision_ok key_stop key_check kind_of place_of points_check roles_of config_check rpi_check type_check ot_size_check to_size_check
    triad_check owner_check stream_of stream_check room_check plan_of verdict after_id point_dest group_dest side_of new_fixed new_heard new_conn opened verdict_of
    reply_of open_answer open_effect open_call removed closed close_answer close_effect close_call expired_first expire_effect expire_answer expire_call
    deadline_answer newer recorded hear taken changes deliver received receive_answer receive_effect receive_call sent frame_sent packet packets counters
    produce_answer produce_effect produce_call set_input_answer set_input_effect set_input_call output_answer output_effect output_call next_event_answer
    next_event_effect next_event_call
facts = (refl, refl, refl, refl, refl, refl, refl, refl, refl)

produced_on : map brief (run calls start).table ≡ (2, 6, 1) ∷ (3, 6, 0) ∷ []
produced_on = facts.0

by_time : told (run first start) ≡ 1 ∷ 1 ∷ 1 ∷ 2 ∷ 3 ∷ 3 ∷ []
by_time = facts.1

by_stream : told (run second start) ≡ 1 ∷ 1 ∷ 1 ∷ 2 ∷ 2 ∷ 3 ∷ []
by_stream = facts.2

before_first : map triad_of (run calls start).table ≡ triad 2 ∷ triad 3 ∷ []
before_first = facts.3

before_second : map triad_of (run (calls ++ (Call.Receive 30000 7 heartbeat ∷ [])) start).table ≡ triad 2 ∷ triad 3 ∷ []
before_second = facts.4

after_first : (run first start).table ≡ []
after_first = facts.5

after_second : (run second start).table ≡ []
after_second = facts.6

-- what an expiry removes that leaves nothing, by the triads
removes_all : (t : ℕ) (s : State) (ts : List Triad) → map triad_of s.table ≡ ts → (next (Call.Expire t) s).table ≡ [] → (d : Triad) → removes t d s ≡ any (triad_is d) ts && true
removes_all t s ts e f d =
    ap₂ (λ a (l : List Conn). a && not (in_table l d)) (sym (any_map triad_of (triad_is d) (conn_triad d) (λ c. refl) s.table) ∙ ap (any (triad_is d)) e) f

-- the same connections are gone, so the premise is met
pub premise_met : SameExpiries pair start start
premise_met = (
  tt,
  (
    tt,
    (
      tt,
      (
        tt,
        (
          tt,
          (
            (λ d.
                removes_all 50000 (run calls start) (triad 2 ∷ triad 3 ∷ []) before_first after_first d ∙
                sym (removes_all 50000 (run (calls ++ (Call.Receive 30000 7 heartbeat ∷ [])) start) (triad 2 ∷ triad 3 ∷ []) before_second after_second d)),
            tt,
          ),
        ),
      ),
    ),
  ),
)

pub holds : Independent pair start
holds = demand_3 7 setup 4 pair premise_met

-- WITHOUT THE PREMISE the conclusion fails: 8 listens to a stream of 7, whose time-out closes the listener in one run only

pub closes : length (keep (other 7) (run (theirs ++ (Call.Expire 50000 ∷ [])) start).table) ≡ 0
closes = facts.7

pub stays : length (keep (other 7) (run (theirs ++ (Call.Receive 30000 7 (io_frame 5 1 1 []) ∷ Call.Expire 50000 ∷ [])) start).table) ≡ 1
stays = facts.8
