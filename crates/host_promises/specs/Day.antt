-- A day on lent bytes, so that the premises are seen to be met: a buffer of zeros is set up with an output, an input and a configuration, a
-- controller opens as owner, a frame brings data and run, and the application reads the output: run, and the frame's two bytes. The
-- checker computes the rules' side; that the C functions say the same is the theorem of runs.
use Rattle.std.specs.Prelude.{ℕ, true, false, ◌≡◌, refl, replicate}
use mathlib.Core.List.{List, [], ◌∷◌, ◌++◌}
use Rattle.std.proofs.lemmas.List.{length-replicate}
use Rattle.base_cells.specs.Numbers.{le, le_of, put, le_bytes}
use Rattle.base_cells.specs.BigEndian.{bytes_be}
use Rattle.base_cells.specs.Records.{enc_fields}
use Rattle.base_cells.specs.Back.{all}
use Rattle.base_tables.specs.Tables.{rows}
use Rattle.wire_rules.specs.Items.{start_of, step_at, items_from, items_of}
use Rattle.wire_rules.specs.Frames.{io_of, io_frame}
use Rattle.wire_rules.specs.Segments.{port_at, logical_at, key_of, key_at, data_at, seg_at, segs_from, segs_of}
use Rattle.wire_rules.specs.Segments
use Rattle.wire_rules.specs.ConnectionPath.{gather, last, connection_path, path_of}
use Rattle.wire_rules.specs.ConnectionPath
use Rattle.wire_rules.specs.Params.{params_at}
use Rattle.wire_rules.specs.Opens.{triad_at, way_at, place_at, fields_of, open_with, width_of, open_of}
use Rattle.wire_rules.specs.Replies.{open_reply}
use Rattle.rules.specs.Answers.{Wrote, Gone}
use Rattle.rules.specs.Setup.{setup_ok, fresh}
use Rattle.rules.specs.Events.{info_of, info_record, event_record, oldest_gone, appended, pushed, pushed_all}
use Rattle.rules.specs.Checks.{must, and_then, transport_check, path_check, revision_ok, key_stop, key_check, kind_of, place_of, points_check, roles_of, config_check, rpi_check, type_check, ot_size_check, to_size_check}
use Rattle.rules.specs.Checks.{triad_check, owner_check, stream_of, stream_check, room_check, plan_of, verdict}
use Rattle.rules.specs.Opening.{after_id, point_dest, group_dest, side_of, new_fixed, new_heard, new_conn, opened, verdict_of, reply_of, open_answer, open_effect, open_call}
use Rattle.rules.specs.Removal.{expired_first, expire_effect, expire_answer, expire_call}
use Rattle.rules.specs.Receiving.{newer, recorded, hear, taken, changes, deliver, received, receive_answer, receive_effect, receive_call}
use Rattle.rules.specs.Host.{output_answer, output_effect, output_call}
use Rattle.rules.specs.Calls.{answer, run}
use Rattle.rules.proofs.Examples.{setup, start, owner, heard}
use Rattle.state_rules.specs.Places.{marks_at, state_size}
use Rattle.state_image.specs.Lift.{lifted, lifted_out}
use Rattle.app_starting.specs.Block.{dec_shape, marked_block, setup_given, kind_given, accepted, started, setup_call}
use Rattle.app_starting.specs.Calls.{set_up}
use Rattle.adapter.specs.Origins.{origin_of}
use Rattle.host_runs.specs.CallContracts.{Said}
use Rattle.host_runs.specs.HostCalls.{HostCall, call_of}

-- ---- the setup: output 150 of 2 bytes, input 101 of 1, configuration 5 of 2; no EDS

abbrev pub block : List ℕ
block =
    (3 ∷ marks_at ∷ 0 ∷ 0 ∷ []) ++ le_bytes 4 0 ++ le_bytes 2 1 ++ le_bytes 2 12 ++ le_bytes 2 3 ++ (1 ∷ 5 ∷ []) ++ le_bytes 4 9 ++ le_bytes 4 198 ++ le_bytes 4 199 ++
    le_bytes 4 1000 ++ le_bytes 4 100000 ++ replicate 74 0 ++ (150 ∷ 0 ∷ 2 ∷ 0 ∷ 2 ∷ 101 ∷ 0 ∷ 1 ∷ 0 ∷ 1 ∷ 5 ∷ 0 ∷ 2 ∷ 0 ∷ 3 ∷ []) ++ replicate 67 0

block_accepted : accepted block [] ≡ true
unfolding accepted setup_given marked_block kind_given setup_ok le le_of put le_bytes all rows dec_shape
block_accepted = refl

pub block_says : setup_given block [] ≡ setup
unfolding setup_given marked_block le le_of put le_bytes rows dec_shape
block_says = refl

-- a buffer of zeros is set up, which is answered 0
pub begins : (0, started block [] 4) ≡ setup_call (replicate state_size 0) block [] 4
begins = set_up (replicate state_size 0) block [] 4 (length-replicate {A = ℕ} state_size 0) block_accepted

-- ---- the calls, on whatever bytes they find

abbrev pub opens : HostCall
opens = HostCall.Open 1000 0x54 owner 8 0x0A000002 0xFF000000 false 0 0 2222 (replicate 26 0)

abbrev pub hears : HostCall
hears = HostCall.Receive 2000 8 (heard 1 1 1 (0xAA ∷ 0xBB ∷ []))

abbrev pub reads : HostCall
reads = HostCall.Output 150 (replicate 3 0)

abbrev pub expires : HostCall
expires = HostCall.Expire 3000

-- the rules' side, computed: the read; an expiry call before it, which takes nothing, and the read behind that
pub computed :
    (answer (call_of reads) (run (call_of opens ∷ call_of hears ∷ []) start) ≡ Wrote (1 ∷ 0xAA ∷ 0xBB ∷ []))
    × (answer (call_of expires) (run (call_of opens ∷ call_of hears ∷ []) start) ≡ Gone 0)
    × (answer (call_of reads) (run (call_of opens ∷ call_of hears ∷ call_of expires ∷ []) start) ≡ Wrote (1 ∷ 0xAA ∷ 0xBB ∷ []))
unfolding fresh le le_of le_bytes bytes_be start_of step_at items_from items_of io_of io_frame port_at logical_at key_of key_at data_at seg_at Segments.between Segments.step_at
    segs_from segs_of gather ConnectionPath.some last ConnectionPath.final connection_path path_of params_at triad_at way_at place_at fields_of open_with width_of open_of
    info_of info_record event_record oldest_gone appended pushed pushed_all open_reply enc_fields
    must and_then transport_check path_check revision_ok key_stop key_check kind_of place_of points_check roles_of config_check rpi_check type_check
    ot_size_check to_size_check triad_check owner_check stream_of stream_check room_check plan_of verdict
    after_id point_dest group_dest side_of new_fixed new_heard new_conn opened verdict_of reply_of open_answer open_effect open_call
    newer recorded hear taken changes deliver received receive_answer receive_effect receive_call output_answer output_effect output_call expired_first expire_effect expire_answer expire_call
computed = (refl, refl, refl)

-- ---- and there are such bytes and answers: those that the contracts name

abbrev pub after_open : List ℕ → ℕ × (List ℕ × List ℕ)
after_open s = lifted_out (open_call 1000 0x54 owner (origin_of 8 0x0A000002 0xFF000000 false 0 0 2222)) s (replicate 26 0)

abbrev pub after_frame : List ℕ → ℕ × List ℕ
after_frame s = lifted (receive_call 2000 8 (heard 1 1 1 (0xAA ∷ 0xBB ∷ []))) s

abbrev pub after_read : List ℕ → ℕ × (List ℕ × List ℕ)
after_read s = lifted_out (output_call 150) s (replicate 3 0)

abbrev pub saying : ℕ → List ℕ → Said
saying r out = record { number = r; output = out; position = [] }
