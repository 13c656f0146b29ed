-- THE LAW: the list that a call leaves is the list before, less the event that was read, with what the call tells pushed onto it.
use Rattle.std.specs.Prelude.{◌≡◌, refl, List, [], ◌∷◌, ◌++◌, Bool, true, false, cond, ℕ, zero, suc, length, Option, Some, None, Result, Ok, Err}
use Rattle.base_ids.specs.declared.Triad.{Triad}
use Rattle.rules.specs.declared.Plan.{Plan}
use Rattle.rules.specs.declared.Stop.{Stop}
use Rattle.std.proofs.Common.{sym, ◌∙◌, ap}
use Rattle.wire_rules.specs.Frames.{io_of}
use Rattle.wire_rules.specs.Opens.{close_of}
use Rattle.rules.specs.declared.Event.TheVariants.{Closed, TimedOut}
use Rattle.rules.specs.Lists.{find, without_first, maybe, repeat}
use Rattle.rules_laws.specs.ListLaws.{by_cases}
use Rattle.rules.specs.State.{Events, State, is_input, is_output}
use Rattle.rules.specs.Answers.{is_yes}
use Rattle.rules.specs.Events.{info_of, pushed, pushed_all}
use Rattle.rules.specs.Checks.{place_of}
use Rattle.rules.specs.Opening.{opened, verdict_of, plan_effect, asked_effect, open_asked, config_bytes, open_answer, open_effect, open_call}
use Rattle.rules.specs.Removal.{handed_over, listeners_of, closed_events, conn_triad, removed, closed, close_by, close_answer, close_effect, close_call, expired, expired_first, expire_answer, expire_effect, expire_call}
use Rattle.rules_laws.specs.RemovalLaws.{removed_if}
use Rattle.rules.specs.Receiving.{Frame, received, frame_of, receive_answer, receive_effect, receive_call}
use Rattle.rules.specs.Producing.{produce_answer, produce_effect, produce_call}
use Rattle.rules.specs.Host.{input_set, set_input_answer, set_input_effect, set_input_call, output_read, output_answer, output_effect, output_call, next_event_answer, next_event_effect, next_event_call}
use Rattle.rules.specs.Calls
use Rattle.rules.specs.Calls.{Call, answer, next}
use Rattle.rules_steps.specs.Names.{ForwardOpen, Origin, Conn, Info, Event}
use Rattle.rules_steps.specs.Told.{plan_told, asked_told, removal_told, gone_told, close_told, expire_told, frame_told, told, unread}

pub pushed_append : (l m : List Event) (es : Events) → pushed_all (l ++ m) es ≡ pushed_all m (pushed_all l es)
unfolding pushed_all
pushed_append [] m es = refl
pushed_append (e ∷ l) m es = pushed_append l m (pushed e es)

pub removal_tells : (fault : Bool) (why : Info → Event) (c : Conn) (rest : List Conn) (s : State) →
    (removed fault why c rest s).events ≡ pushed_all (removal_told why c rest s.setup) s.events
unfolding removed pushed_all
removal_tells fault why c rest s = sym (pushed_append (closed_events s.setup (listeners_of c (handed_over c rest))) (why (info_of s.setup c.fixed) ∷ []) s.events)

gone_tells : (fault : Bool) (why : Info → Event) (p : Conn → Bool) (s : State) (x : Option Conn) → (removed_if fault why p s x).events ≡ pushed_all (gone_told why p s x) s.events
unfolding pushed_all
gone_tells fault why p s None = refl
gone_tells fault why p s (Some c) = removal_tells fault why c (without_first p s.table) s

expiry_tells : (t n : ℕ) (s : State) → (repeat n (expired_first t) s).events ≡ pushed_all (expire_told t n s) s.events
unfolding expired_first pushed_all
expiry_tells t zero s = refl
expiry_tells t (suc n) s =
    let x = find (expired t) s.table in
    expiry_tells t n (expired_first t s) ∙ ap (pushed_all (expire_told t n (expired_first t s))) (gone_tells true TimedOut (expired t) s x) ∙
    sym (pushed_append (gone_told TimedOut (expired t) s x) (expire_told t n (expired_first t s)) s.events)

plan_tells : (t : ℕ) (q : ForwardOpen) (g : Origin) (bytes : List ℕ) (s : State) (v : Result Plan Stop) → (plan_effect t q g bytes s v).events ≡ pushed_all (plan_told s q g bytes v) s.events
unfolding opened pushed_all
plan_tells t q g bytes s (Err x) = refl
plan_tells t q g bytes s (Ok p) = refl

asked_tells : (t : ℕ) (g : Origin) (request : List ℕ) (s : State) (x : Option ForwardOpen) → (asked_effect t g request s x).events ≡ pushed_all (asked_told g request s x) s.events
unfolding pushed_all
asked_tells t g request s None = refl
asked_tells t g request s (Some q) = plan_tells t q g (config_bytes request q) s (verdict_of request q s)

close_tells : (s : State) (x : Option Triad) → (close_by s x).events ≡ pushed_all (close_told s x) s.events
unfolding closed pushed_all
close_tells s None = refl
close_tells s (Some k) = gone_tells false Closed (conn_triad k) s (find (conn_triad k) s.table)

frame_tells : (t from : ℕ) (s : State) (x : Option Frame) → (maybe s (λ f. received t from f s) x).events ≡ pushed_all (frame_told from s x) s.events
unfolding received pushed_all
frame_tells t from s None = refl
frame_tells t from s (Some f) = refl

input_tells : (bytes : List ℕ) (s : State) (x : Option ℕ) → (input_set bytes s x).events ≡ s.events
input_tells bytes s None = refl
input_tells bytes s (Some i) = refl

output_tells : (s : State) (x : Option ℕ) → (output_read s x).events ≡ s.events
output_tells s None = refl
output_tells s (Some i) = refl

settle : (b : Bool) (s' s : State) (l : List Event) → s'.events ≡ pushed_all l s.events → (cond b s' s).events ≡ pushed_all (cond b l []) s.events
unfolding pushed_all
settle true s' s l e = e
settle false s' s l e = refl

none_told : (b : Bool) (es : Events) → es ≡ pushed_all (cond b [] []) es
unfolding pushed_all
none_told true es = refl
none_told false es = refl

-- THE LIST THAT A CALL LEAVES is what it tells, pushed onto what is unread
pub list_is_told : (c : Call) (s : State) → (next c s).events ≡ pushed_all (told c s) (unread c s)
unfolding open_call open_effect close_call close_effect receive_call receive_effect produce_call produce_effect expire_call expire_effect set_input_call set_input_effect output_call output_effect next_event_call next_event_effect pushed_all
list_is_told (Calls.Open t service request g room) s =
    settle (is_yes (open_answer t service request g room s)) (open_effect t service request g s) s (asked_told g request s (open_asked service request)) (asked_tells t g request s (open_asked service request))
list_is_told (Calls.OpenRefusal service request room) s = none_told (is_yes (answer (Calls.OpenRefusal service request room) s)) s.events
list_is_told (Calls.Close request room) s = settle (is_yes (close_answer request room s)) (close_effect request s) s (close_told s (close_of request)) (close_tells s (close_of request))
list_is_told (Calls.Receive t from frame) s =
    settle (is_yes (receive_answer t)) (receive_effect t from frame s) s (frame_told from s (frame_of frame (io_of frame))) (frame_tells t from s (frame_of frame (io_of frame)))
list_is_told (Calls.Produce t room) s = settle (is_yes (produce_answer t room s)) (produce_effect t s) s [] refl
list_is_told (Calls.Expire t) s = settle (is_yes (expire_answer t s)) (expire_effect t s) s (expire_told t (length s.table) s) (expiry_tells t (length s.table) s)
list_is_told (Calls.Deadline room) s = none_told (is_yes (answer (Calls.Deadline room) s)) s.events
list_is_told (Calls.SetInput n bytes) s = settle (is_yes (set_input_answer n bytes s.setup)) (set_input_effect n bytes s) s [] (input_tells bytes s (place_of is_input s.setup n))
list_is_told (Calls.ReadOutput n room) s = settle (is_yes (output_answer n room s)) (output_effect n s) s [] (output_tells s (place_of is_output s.setup n))
list_is_told (Calls.ReadAssembly kind n room) s = none_told (is_yes (answer (Calls.ReadAssembly kind n room) s)) s.events
list_is_told (Calls.NextEvent room) s = by_cases (is_yes (next_event_answer room s)) (λ y. rw y refl) (λ n. rw n refl)
list_is_told (Calls.Connections room) s = none_told (is_yes (answer (Calls.Connections room) s)) s.events
list_is_told (Calls.Stats room) s = none_told (is_yes (answer (Calls.Stats room) s)) s.events
list_is_told (Calls.Message local mask message room position) s = none_told (is_yes (answer (Calls.Message local mask message room position) s)) s.events
