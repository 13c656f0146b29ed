-- What an example says to let the definitions compute: `unfolding openings` stands for every definition that an open goes through.
use mathlib.Core.Bool.{Bool, true}
use Rattle.base_cells.specs.Numbers.{le, le_of, le_bytes}
use Rattle.base_cells.specs.BigEndian.{bytes_be}
use Rattle.base_cells.specs.Records.{enc_fields}
use Rattle.wire_rules.specs.Items.{start_of, step_at, items_from, items_of}
use Rattle.wire_rules.specs.Frames.{io_of, io_frame}
use Rattle.wire_rules.specs.Segments.{port_at, logical_at, key_of, key_at, data_at, seg_at, segs_from, segs_of}
use Rattle.wire_rules.specs.Segments
use Rattle.wire_rules.specs.ConnectionPath.{gather, last, connection_path, path_of}
use Rattle.wire_rules.specs.ConnectionPath
use Rattle.wire_rules.specs.Params.{params_at}
use Rattle.wire_rules.specs.Opens.{triad_at, way_at, place_at, fields_of, open_with, width_of, open_of, close_of}
use Rattle.wire_rules.specs.Replies.{open_reply, triad_reply}
use Rattle.rules.specs.Answers.{answer_number}
use Rattle.rules.specs.Setup.{fresh}
use Rattle.rules.specs.Events.{info_of, info_record, event_record, oldest_gone, appended, pushed, pushed_all}
use Rattle.rules.specs.Checks.{must, and_then, transport_check, path_check, revision_ok, key_stop, key_check, kind_of, place_of, points_check, roles_of, config_check, rpi_check, type_check, ot_size_check, to_size_check, triad_check, owner_check, stream_of, stream_check, room_check, plan_of, verdict}
use Rattle.rules.specs.Opening.{after_id, point_dest, group_dest, side_of, new_fixed, new_heard, new_conn, opened, verdict_of, reply_of, open_answer, open_effect, open_call}
use Rattle.rules.specs.Removal.{removed, closed, close_answer, close_effect, close_call, expired_first, expire_effect, expire_answer, expire_call, deadline_answer}
use Rattle.rules.specs.Receiving.{newer, recorded, hear, taken, changes, deliver, received, receive_answer, receive_effect, receive_call}
use Rattle.rules.specs.Producing.{sent, frame_sent, packet, packets, counters, produce_answer, produce_effect, produce_call}
use Rattle.rules.specs.Host.{set_input_answer, set_input_effect, set_input_call, output_answer, output_effect, output_call, next_event_answer, next_event_effect, next_event_call}

-- bytes: numbers, paths, requests, replies
unfoldable pub wire : Bool
unfolding le le_of le_bytes bytes_be enc_fields Segments.port_offset Segments.link_offset Segments.link_size Segments.port_of port_at logical_at key_of key_at data_at seg_at Segments.between Segments.step_at segs_from segs_of gather ConnectionPath.some last ConnectionPath.final connection_path path_of params_at triad_at way_at place_at fields_of open_with width_of open_of close_of open_reply triad_reply
wire = true

-- I/O frames
unfoldable pub frames : Bool
unfolding le le_of le_bytes bytes_be start_of step_at items_from items_of io_of io_frame
frames = true

-- the thirteen checks
unfoldable pub checks : Bool
unfolding must and_then transport_check path_check revision_ok key_stop key_check kind_of place_of points_check roles_of config_check rpi_check type_check ot_size_check to_size_check triad_check owner_check stream_of stream_check room_check plan_of verdict
checks = true

-- the event list and its records
unfoldable pub events : Bool
unfolding info_of info_record event_record oldest_gone appended pushed pushed_all le_bytes
events = true

-- an open
unfoldable pub openings : Bool
unfolding wire checks events fresh answer_number after_id point_dest group_dest side_of new_fixed new_heard new_conn opened verdict_of reply_of open_answer open_effect open_call
openings = true

-- a close, an expiry, the next deadline
unfoldable pub removals : Bool
unfolding wire events removed closed close_answer close_effect close_call expired_first expire_effect expire_answer expire_call deadline_answer
removals = true

-- a frame in, packets out
unfoldable pub traffic : Bool
unfolding frames events newer recorded hear taken changes deliver received receive_answer receive_effect receive_call sent frame_sent packet packets counters produce_answer produce_effect produce_call
traffic = true

-- an input set, an output and an event read
unfoldable pub hosting : Bool
unfolding set_input_answer set_input_effect set_input_call output_answer output_effect output_call next_event_answer next_event_effect next_event_call
hosting = true
