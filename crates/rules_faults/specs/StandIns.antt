-- The five stand-ins: programs that look busy and do nothing. Whatever behaves as one of them is not what the rules say; each by a small
-- state and call on which the two differ, and under the weakest premise that this state and call refute.
use Rattle.std.specs.Prelude.{◌≡◌, refl, List, [], ◌∷◌, Bool, true, ℕ, ◌+◌, ◌*◌, ◌/◌, ◌%◌, ◌^◌, ◌≤◌, length, get_or}
use Rattle.std.proofs.Common.{ap, sym, ◌∙◌, arith}
use Rattle.base_cells.specs.Numbers.{le, le_of, le_bytes}
use Rattle.base_cells.specs.BigEndian.{bytes_be}
use Rattle.base_cells.specs.Records.{enc_fields}
use Rattle.wire_rules.specs.Items.{start_of, step_at, items_from, items_of}
use Rattle.wire_rules.specs.Frames.{io_of, io_frame}
use Rattle.wire_rules.specs.Segments.{port_at, logical_at, key_of, key_at, data_at, seg_at, segs_from, segs_of}
use Rattle.wire_rules.specs.Segments
use Rattle.wire_rules.specs.ConnectionPath.{gather, last, connection_path, path_of}
use Rattle.wire_rules.specs.ConnectionPath
use Rattle.wire_rules.specs.Params.{params_at}
use Rattle.wire_rules.specs.Opens.{triad_at, way_at, place_at, fields_of, open_with, width_of, open_of, close_of}
use Rattle.rules.specs.Answers.{answer_number}
use Rattle.rules.specs.Setup.{setup_ok, fresh}
use Rattle.rules.specs.Events.{info_of, info_record, event_record, oldest_gone, appended, pushed, pushed_all}
use Rattle.wire_rules.specs.Replies.{open_reply, triad_reply}
use Rattle.rules.specs.Checks.{must, and_then, transport_check, path_check, revision_ok, key_stop, key_check, kind_of, place_of, points_check, roles_of, config_check, rpi_check, type_check, ot_size_check, to_size_check, triad_check, owner_check, stream_of, stream_check, room_check, plan_of, verdict}
use Rattle.rules.specs.Opening.{after_id, point_dest, group_dest, side_of, new_fixed, new_heard, new_conn, opened, verdict_of, reply_of, open_answer, open_effect, open_call}
use Rattle.rules.specs.Removal.{removed, closed, close_answer, close_effect, close_call, expired_first, expire_effect, expire_answer, expire_call, deadline_answer}
use Rattle.rules.specs.Receiving.{newer, recorded, hear, taken, changes, deliver, received, receive_answer, receive_effect, receive_call}
use Rattle.rules.specs.Producing.{sent, frame_sent, packet, packets, counters, produce_answer, produce_effect, produce_call}
use Rattle.rules.specs.Host.{set_input_answer, set_input_effect, set_input_call, output_answer, output_effect, output_call, next_event_answer, next_event_effect, next_event_call}
use Rattle.rules.specs.Answers.{Answer, is_yes, answer_bytes}
use Rattle.rules.specs.State.{Content, no_content, State, with_table}
use Rattle.rules.specs.Calls.{run}
use Rattle.wire_rules.specs.Examples.{Example, ◌is◌, Hold}
use Rattle.rules.proofs.Examples.{start, owner, from, heard, opens, noon}
use Rattle.rules_steps.specs.Names.{Origin, Conn}

-- what an open, a receive and a produce take and leave
abbrev pub Opens : Type 0
Opens = (time service : ℕ) (request : List ℕ) (g : Origin) (room : ℕ) (st : State) → Answer × State

abbrev pub Receives : Type 0
Receives = (time peer : ℕ) (frame : List ℕ) (st : State) → Answer × State

abbrev pub Produces : Type 0
Produces = (time room : ℕ) (st : State) → Answer × State

-- ---- the witnesses: what the rules give

abbrev accepted : ℕ
accepted = answer_number (open_call 1000 0x54 owner (from 8) 26 start).0

-- the same open again: its triad is in use
abbrev again : ℕ
again = answer_number (open_call 1000 0x54 owner (from 8) 26 (run opens start)).0

abbrev frame : List ℕ
frame = heard 1 1 1 (0xAA ∷ 0xBB ∷ [])

-- of a state the output's first byte; of a call whether it is a yes, how many bytes it writes, and the counters it leaves
abbrev first : List Content → ℕ
first contents = get_or (get_or contents 0 no_content).bytes 0 0

abbrev done : Answer × State → Bool
done x = is_yes x.0

abbrev written : Answer × State → ℕ
written x = length (answer_bytes x.0)

abbrev sent_by : Answer × State → ℕ
sent_by x = x.1.counters.produced

abbrev late_by : Answer × State → ℕ
late_by x = x.1.counters.late

abbrev witnesses : List Example
witnesses =
    (accepted % 256 is 0) ∷
    (again % 256 is 5) ∷
    (again / 2 ^ 32 is 0x0100) ∷
    (first (run opens start).contents is 0) ∷
    (first (receive_call 2000 8 frame (run opens start)).1.contents is 0xAA) ∷
    (done (produce_call 2000 34 start) is true) ∷
    (written (produce_call 2000 34 start) is 0) ∷
    (done (produce_call 2000 34 (run opens start)) is true) ∷
    (written (produce_call 2000 34 (run opens start)) is 34) ∷
    ((run noon start).counters.produced is 1) ∷
    (done (produce_call 11000 34 (run noon start)) is true) ∷
    (written (produce_call 11000 34 (run noon start)) is 34) ∷
    (sent_by (produce_call 2000 34 (with_table [] (run opens start))) is 0) ∷
    (sent_by (produce_call 2000 34 (run opens start)) is 1) ∷
    (late_by (produce_call 2000 34 (with_table [] (run opens start))) is 0) ∷
    (late_by (produce_call 2000 34 (run opens start)) is 1) ∷
    []

hold : Hold witnesses
unfolding fresh setup_ok answer_number le le_of le_bytes bytes_be start_of step_at items_from items_of io_of io_frame port_at logical_at key_of key_at data_at seg_at
    Segments.between Segments.step_at segs_from segs_of gather ConnectionPath.some last ConnectionPath.final connection_path path_of params_at triad_at way_at place_at fields_of
    open_with width_of open_of close_of info_of info_record event_record oldest_gone appended pushed pushed_all open_reply triad_reply enc_fields must and_then
    transport_check path_check revision_ok key_stop key_check kind_of place_of points_check roles_of config_check rpi_check type_check ot_size_check to_size_check
    triad_check owner_check stream_of stream_check room_check plan_of verdict after_id point_dest group_dest side_of new_fixed new_heard new_conn opened verdict_of
    reply_of open_answer open_effect open_call removed closed close_answer close_effect close_call expired_first expire_effect expire_answer expire_call
    deadline_answer newer recorded hear taken changes deliver received receive_answer receive_effect receive_call sent frame_sent packet packets counters
    produce_answer produce_effect produce_call set_input_answer set_input_effect set_input_call output_answer output_effect output_call next_event_answer
    next_event_effect next_event_call
hold = (refl, (refl, (refl, (refl, (refl, (refl, (refl, (refl, (refl, (refl, (refl, (refl, (refl, (refl, (refl, (refl, tt))))))))))))))))

-- each by its name
opens_accepted : accepted % 256 ≡ 0
opens_accepted = hold.0

again_refused : (again % 256 ≡ 5) × (again / 2 ^ 32 ≡ 0x0100)
again_refused = (hold.1.0, hold.1.1.0)

hears : (first (run opens start).contents ≡ 0) × (first (receive_call 2000 8 frame (run opens start)).1.contents ≡ 0xAA)
hears = (hold.1.1.1.0, hold.1.1.1.1.0)

sends_none : (done (produce_call 2000 34 start) ≡ true) × (written (produce_call 2000 34 start) ≡ 0)
sends_none = (hold.1.1.1.1.1.0, hold.1.1.1.1.1.1.0)

sends_one : (done (produce_call 2000 34 (run opens start)) ≡ true) × (written (produce_call 2000 34 (run opens start)) ≡ 34)
sends_one = (hold.1.1.1.1.1.1.1.0, hold.1.1.1.1.1.1.1.1.0)

sends_again : ((run noon start).counters.produced ≡ 1) × (done (produce_call 11000 34 (run noon start)) ≡ true) × (written (produce_call 11000 34 (run noon start)) ≡ 34)
sends_again = (hold.1.1.1.1.1.1.1.1.1.0, hold.1.1.1.1.1.1.1.1.1.1.0, hold.1.1.1.1.1.1.1.1.1.1.1.0)

counts_sent : (sent_by (produce_call 2000 34 (with_table [] (run opens start))) ≡ 0) × (sent_by (produce_call 2000 34 (run opens start)) ≡ 1)
counts_sent = (hold.1.1.1.1.1.1.1.1.1.1.1.1.0, hold.1.1.1.1.1.1.1.1.1.1.1.1.1.0)

counts_late : (late_by (produce_call 2000 34 (with_table [] (run opens start))) ≡ 0) × (late_by (produce_call 2000 34 (run opens start)) ≡ 1)
counts_late = (hold.1.1.1.1.1.1.1.1.1.1.1.1.1.1.0, hold.1.1.1.1.1.1.1.1.1.1.1.1.1.1.1.0)

-- ---- an open that says 5 to everyone; one that says 0x0103 wherever it says 5

abbrev refusal : ℕ
refusal = 5 + 2 ^ 8 * 1 + 2 ^ 16 * 1 + 2 ^ 32 * 0x0103

module _ (f : Opens) (rule : (t service : ℕ) (request : List ℕ) (g : Origin) (room : ℕ) (st : State) → f t service request g room st ≡ open_call t service request g room st) where
  abbrev says : ℕ → ℕ → List ℕ → Origin → ℕ → State → ℕ
  says t service request g room st = answer_number (f t service request g room st).0

  as_ruled : (st : State) → says 1000 0x54 owner (from 8) 26 st ≡ answer_number (open_call 1000 0x54 owner (from 8) 26 st).0
  as_ruled st = ap (λ (x : Answer × State). answer_number x.0) (rule 1000 0x54 owner (from 8) 26 st)

  pub not_always_refused : ((t service : ℕ) (request : List ℕ) (g : Origin) (room : ℕ) (st : State) → says t service request g room st % 256 ≡ 5) → ⊥
  not_always_refused five =
      let z : ◌≡◌ {A = ℕ} 5 0 = sym (five 1000 0x54 owner (from 8) 26 start) ∙ ap (λ (n : ℕ). n % 256) (as_ruled start) ∙ opens_accepted in
      omega arith

  pub not_one_word : ((t service : ℕ) (request : List ℕ) (g : Origin) (room : ℕ) (st : State) → says t service request g room st % 256 ≡ 5 → says t service request g room st ≡ refusal) → ⊥
  not_one_word word =
      let e = as_ruled (run opens start) in
      let five : says 1000 0x54 owner (from 8) 26 (run opens start) % 256 ≡ 5 = ap (λ (n : ℕ). n % 256) e ∙ again_refused.0 in
      let z : refusal / 2 ^ 32 ≡ 0x0100 = ap (λ (n : ℕ). n / 2 ^ 32) (sym (word 1000 0x54 owner (from 8) 26 (run opens start) five) ∙ e) ∙ again_refused.1 in
      omega arith

-- ---- a receive that leaves every assembly as it was

pub not_deaf : (f : Receives) → ((t peer : ℕ) (bytes : List ℕ) (st : State) → (f t peer bytes st).1.contents ≡ st.contents)
    → ((t peer : ℕ) (bytes : List ℕ) (st : State) → f t peer bytes st ≡ receive_call t peer bytes st) → ⊥
not_deaf f idle rule =
    let st : State = run opens start in
    let e : st.contents ≡ (receive_call 2000 8 frame st).1.contents = sym (idle 2000 8 frame st) ∙ ap (λ (x : Answer × State). x.1.contents) (rule 2000 8 frame st) in
    let z : ◌≡◌ {A = ℕ} 0 0xAA = sym hears.0 ∙ ap first e ∙ hears.1 in
    omega arith

module _ (f : Produces) (rule : (t room : ℕ) (st : State) → f t room st ≡ produce_call t room st) where
  done_too : (t room : ℕ) (st : State) → done (produce_call t room st) ≡ true → done (f t room st) ≡ true
  done_too t room st y = ap done (rule t room st) ∙ y

  -- ---- packets that follow from the time and the room, whatever the state, wherever the room suffices

  pub not_one_list : (list : ℕ → ℕ → List ℕ) → ((t room : ℕ) (st : State) → done (f t room st) ≡ true → answer_bytes (f t room st).0 ≡ list t room) → ⊥
  not_one_list list fixed =
      let at : (st : State) → done (produce_call 2000 34 st) ≡ true → length (list 2000 34) ≡ written (produce_call 2000 34 st) =
      λ st y. ap length (sym (fixed 2000 34 st (done_too 2000 34 st y))) ∙ ap written (rule 2000 34 st) in
      let z : ◌≡◌ {A = ℕ} 0 34 = sym sends_none.1 ∙ sym (at start sends_none.0) ∙ at (run opens start) sends_one.0 ∙ sends_one.1 in
      omega arith

  -- ---- a produce that sends everything on the first call and later only counts: nothing is written once anything was produced

  pub not_once_only : ((t room : ℕ) (st : State) → 1 ≤ st.counters.produced → done (f t room st) ≡ true → answer_bytes (f t room st).0 ≡ []) → ⊥
  not_once_only silent =
      let st : State = run noon start in
      let e : written (f 11000 34 st) ≡ 0 = ap length (silent 11000 34 st (let p = sends_again.0 in omega arith) (done_too 11000 34 st sends_again.1)) in
      let z : ◌≡◌ {A = ℕ} 0 34 = sym e ∙ ap written (rule 11000 34 st) ∙ sends_again.2 in
      omega arith

  -- ---- invented numbers: `produced` and `late` that step by any rule that does not look at the table

  abbrev blind : (Answer × State → ℕ) → Type 0
  blind of = (t room : ℕ) (st : State) (table : List Conn) → of (f t room (with_table table st)) ≡ of (f t room st)

  pub produced_not_invented : blind sent_by → ⊥
  produced_not_invented same =
      let st : State = run opens start in
      let z : ◌≡◌ {A = ℕ} 0 1 = sym counts_sent.0 ∙ sym (ap sent_by (rule 2000 34 (with_table [] st))) ∙ same 2000 34 st [] ∙ ap sent_by (rule 2000 34 st) ∙ counts_sent.1 in
      omega arith

  pub late_not_invented : blind late_by → ⊥
  late_not_invented same =
      let st : State = run opens start in
      let z : ◌≡◌ {A = ℕ} 0 1 = sym counts_late.0 ∙ sym (ap late_by (rule 2000 34 (with_table [] st))) ∙ same 2000 34 st [] ∙ ap late_by (rule 2000 34 st) ∙ counts_late.1 in
      omega arith
