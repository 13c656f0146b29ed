-- THE INDUCTION. What keeps the seven obligations is kept by each of the fourteen calls, and by every run; so is what a history has taught.
use Rattle.std.specs.Prelude.{◌≡◌, List, [], ◌∷◌, Bool, cond, leb, length, Option, Some, None, Result, Ok, Err}
use Rattle.base_ids.specs.declared.Triad.{Triad}
use Rattle.rules.specs.declared.Plan.{Plan}
use Rattle.rules.specs.declared.Stop.{Stop}
use Rattle.std.proofs.Math.Path.{refl}
use Rattle.std.proofs.Common.{sym}
use Rattle.std.proofs.Math.Bool.{true, false}
use Prim.Native.Nat.{ℕ, zero, suc}
use Rattle.wire_rules.specs.Frames.{io_of}
use Rattle.wire_rules.specs.Opens.{close_of}
use Rattle.wire_rules.specs.Replies.{close_reply}
use Rattle.rules.specs.declared.Event.TheVariants.{Closed, TimedOut}
use Rattle.rules.specs.Lists.{find, any, without_first, maybe, repeat}
use Rattle.rules_laws.specs.ListLaws
use Rattle.rules_laws.specs.ListLaws.{by_cases, either_way}
use Rattle.rules.specs.State.{State, is_input, is_output}
use Rattle.rules.specs.Answers.{Answer, is_yes, timely}
use Rattle.rules.specs.Checks.{place_of}
use Rattle.rules.specs.Opening.{opened, verdict_of, reply_of, plan_answer, plan_effect, asked_answer, asked_effect, open_asked, config_bytes, open_answer, open_effect, open_call}
use Rattle.rules.specs.Removal.{conn_triad, removed, closed, close_for, close_by, close_answer, close_effect, close_call, expired, expired_first, expire_answer, expire_effect, expire_call}
use Rattle.rules_laws.specs.RemovalLaws.{removed_if}
use Rattle.rules.specs.Receiving.{Frame, received, frame_of, receive_answer, receive_effect, receive_call}
use Rattle.rules.specs.Producing.{produce_answer, produce_effect, produce_call}
use Rattle.rules.specs.Host.{input_set, set_input_answer, set_input_effect, set_input_call, output_read, output_answer, output_effect, output_call, next_event_answer, next_event_effect, next_event_call}
use Rattle.rules.specs.Calls
use Rattle.rules.specs.Calls.{Call, answer, next, run}
use Rattle.rules_steps.specs.Names.{ForwardOpen, Origin, Conn, Info, Event}
use Rattle.rules_steps.specs.Steps.{log, News, Opening, Closing, Nothing, asked_news, close_news, frame_news, news, Reading, learnt, history, Removing, Kept, Follows}

found : {A : Type 0} (p : A → Bool) (l : List A) → any p l ≡ true → {Q : Type 0} → ((c : A) → find p l ≡ Some c → Q) → Q
found p [] y k = ListLaws.clash true refl (sym y)
found p (x ∷ xs) y k =
    by_cases (p x)
    (λ e. k x (rw e refl))
    (λ e. found p xs (rw e at y) (λ c z. k c (rw e z)))

module _ {G : Type 0} (r : Reading G) (P : G → State → Type 0) (k : Follows r P) where
  -- what is learnt and what is left, of an answer
  abbrev Step : State → G → Answer → News → State → Type 0
  Step s w a n s' = P (learnt r (cond (is_yes a) n Nothing) w) (cond (is_yes a) s' s)

  -- OPEN
  plan_follows : (t : ℕ) (request : List ℕ) (q : ForwardOpen) (g : Origin) (room : ℕ) (s : State) (w : G) → P w s → (v : Result Plan Stop) → verdict_of request q s ≡ v →
      let a = plan_answer q g s.next_id room v in
      Step s w a (Opening t request q g a) (plan_effect t q g (config_bytes request q) s v)
  plan_follows t request q g room s w h (Err x) e = h
  plan_follows t request q g room s w h (Ok p) e =
      either_way (λ a. Step s w a (Opening t request q g a) (opened t q g (config_bytes request q) p s)) (leb (length (reply_of q g p s.next_id)) room)
      (k.opening t request q g p s w e h) h

  asked_follows : (t : ℕ) (request : List ℕ) (g : Origin) (room : ℕ) (s : State) (w : G) → P w s → (x : Option ForwardOpen) →
      let a = asked_answer g request room s x in
      Step s w a (asked_news t request g a x) (asked_effect t g request s x)
  asked_follows t request g room s w h None = h
  asked_follows t request g room s w h (Some q) = plan_follows t request q g room s w h (verdict_of request q s) refl

  open_follows : (t service : ℕ) (request : List ℕ) (g : Origin) (room : ℕ) (s : State) (w : G) → P w s →
      let c = Calls.Open t service request g room in P (learnt r (news c (answer c s)) w) (next c s)
  unfolding open_call open_effect open_answer
  open_follows t service request g room s w h =
      by_cases (timely t) (λ y. rw y (asked_follows t request g room s w h (open_asked service request))) (λ n. rw n h)

  -- CLOSE
  close_for_follows : (room : ℕ) (s : State) (w : G) → P w s → (x : Option Triad) → Step s w (close_for room s x) (close_news x) (close_by s x)
  unfolding closed
  close_for_follows room s w h None = h
  close_for_follows room s w h (Some d) =
      by_cases (any (conn_triad d) s.table)
      (λ y. found (conn_triad d) s.table y
      (λ c e. rw (y, e) (either_way (λ a. Step s w a (Closing d) (removed false Closed c (without_first (conn_triad d) s.table) s)) (leb (length (close_reply d)) room)
      (k.closing d c s w e h) h)))
      (λ n. rw n h)

  close_follows : (request : List ℕ) (room : ℕ) (s : State) (w : G) → P w s →
      let c = Calls.Close request room in P (learnt r (news c (answer c s)) w) (next c s)
  unfolding close_call close_effect close_answer
  close_follows request room s w h = close_for_follows room s w h (close_of request)

  -- RECEIVE
  frame_follows : (t from : ℕ) (s : State) (w : G) → P w s → (x : Option Frame) → P (learnt r (frame_news t from x) w) (maybe s (λ f. received t from f s) x)
  frame_follows t from s w h None = h
  frame_follows t from s w h (Some f) = k.hearing t from f s w h

  receive_follows : (t from : ℕ) (frame : List ℕ) (s : State) (w : G) → P w s →
      let c = Calls.Receive t from frame in P (learnt r (news c (answer c s)) w) (next c s)
  unfolding receive_call receive_effect receive_answer
  receive_follows t from frame s w h = by_cases (timely t) (λ y. rw y (frame_follows t from s w h (frame_of frame (io_of frame)))) (λ n. rw n h)

  -- EXPIRE
  expire_follows : (t : ℕ) (s : State) (w : G) → P w s → let c = Calls.Expire t in P (learnt r (news c (answer c s)) w) (next c s)
  unfolding expire_call expire_answer
  expire_follows t s w h = by_cases (timely t) (λ y. rw y (k.expiring t s w h)) (λ n. rw n h)

  -- no news
  no_news : (b : Bool) (w : G) (s : State) → P w s → P (learnt r (cond b Nothing Nothing) w) s
  no_news true w s h = h
  no_news false w s h = h

  quiet_step : (b : Bool) (w : G) (s s' : State) → P w s' → P w s → P (learnt r (cond b Nothing Nothing) w) (cond b s' s)
  quiet_step true w s s' k h = k
  quiet_step false w s s' k h = h

  -- the host's
  input_follows : (n : ℕ) (bytes : List ℕ) (s : State) (w : G) → P w s → (x : Option ℕ) → place_of is_input s.setup n ≡ x → P w (input_set bytes s x)
  input_follows n bytes s w h None e = h
  input_follows n bytes s w h (Some i) e = (k.quiet w).setting n i bytes s e h

  output_follows : (n : ℕ) (s : State) (w : G) → P w s → (x : Option ℕ) → place_of is_output s.setup n ≡ x → P w (output_read s x)
  output_follows n s w h None e = h
  output_follows n s w h (Some i) e = (k.quiet w).reading n i s e h

  -- EVERY CALL
  pub follows : (c : Call) (s : State) (w : G) → P w s → P (learnt r (news c (answer c s)) w) (next c s)
  unfolding produce_call set_input_call set_input_effect output_call output_effect next_event_call
  follows (Calls.Open t service request g room) s w h = open_follows t service request g room s w h
  follows (Calls.OpenRefusal service request room) s w h = no_news (is_yes (answer (Calls.OpenRefusal service request room) s)) w s h
  follows (Calls.Close request room) s w h = close_follows request room s w h
  follows (Calls.Receive t from frame) s w h = receive_follows t from frame s w h
  follows (Calls.Produce t room) s w h = quiet_step (is_yes (produce_answer t room s)) w s (produce_effect t s) ((k.quiet w).producing t s h) h
  follows (Calls.Expire t) s w h = expire_follows t s w h
  follows (Calls.Deadline room) s w h = no_news (is_yes (answer (Calls.Deadline room) s)) w s h
  follows (Calls.SetInput n bytes) s w h =
      quiet_step (is_yes (set_input_answer n bytes s.setup)) w s (set_input_effect n bytes s) (input_follows n bytes s w h (place_of is_input s.setup n) refl) h
  follows (Calls.ReadOutput n room) s w h =
      quiet_step (is_yes (output_answer n room s)) w s (output_effect n s) (output_follows n s w h (place_of is_output s.setup n) refl) h
  follows (Calls.ReadAssembly kind n room) s w h = no_news (is_yes (answer (Calls.ReadAssembly kind n room) s)) w s h
  follows (Calls.NextEvent room) s w h = quiet_step (is_yes (next_event_answer room s)) w s (next_event_effect s) ((k.quiet w).noting s h) h
  follows (Calls.Connections room) s w h = no_news (is_yes (answer (Calls.Connections room) s)) w s h
  follows (Calls.Stats room) s w h = no_news (is_yes (answer (Calls.Stats room) s)) w s h
  follows (Calls.Message local mask message room position) s w h = no_news (is_yes (answer (Calls.Message local mask message room position) s)) w s h

  -- EVERY RUN
  pub run_follows : (cs : List Call) (s : State) (w : G) → P w s → P (history r (log cs s) w) (run cs s)
  run_follows [] s w h = h
  run_follows (c ∷ cs) s w h = run_follows cs (next c s) (learnt r (news c (answer c s)) w) (follows c s w h)

-- a reading that learns nothing
abbrev unlearnt : Reading (Unit {0})
unlearnt = record { on_open = λ t request q g a w. w; on_close = λ k w. w; on_frame = λ t from f w. w; on_expire = λ t w. w }

-- an expiry is so many removals
module _ (P : State → Type 0) (removing : Removing P) where
  gone : (fault : Bool) (why : Info → Event) (p : Conn → Bool) (s : State) (x : Option Conn) → find p s.table ≡ x → P s → P (removed_if fault why p s x)
  gone fault why p s None e h = h
  gone fault why p s (Some c) e h = removing fault why p c s e h

  expired_kept : (t n : ℕ) (s : State) → P s → P (repeat n (expired_first t) s)
  unfolding expired_first
  expired_kept t zero s h = h
  expired_kept t (suc n) s h = expired_kept t n (expired_first t s) (gone true TimedOut (expired t) s (find (expired t) s.table) refl h)

  pub expiry_keeps : (t : ℕ) (s : State) → P s → P (expire_effect t s)
  unfolding expire_effect
  expiry_keeps t s h = expired_kept t (length s.table) s h

module _ (P : State → Type 0) (k : Kept P) where
  plain : Follows unlearnt (λ w. P)
  plain =
      record {
        quiet = λ w. k.quiet;
        opening = λ t request q g p s w e h. k.opening t request q g p s e h;
        closing = λ d c s w e h. k.removing false Closed (conn_triad d) c s e h;
        expiring = λ t s w h. expiry_keeps P k.removing t s h;
        hearing = λ t from f s w h. k.hearing t from f s h;
      }

  -- EVERY CALL AND EVERY RUN KEEP AN INVARIANT
  pub kept : (c : Call) (s : State) → P s → P (next c s)
  kept c s h = follows unlearnt (λ w. P) plain c s tt h

  pub run_kept : (cs : List Call) (s : State) → P s → P (run cs s)
  run_kept [] s h = h
  run_kept (c ∷ cs) s h = run_kept cs (next c s) (kept c s h)
