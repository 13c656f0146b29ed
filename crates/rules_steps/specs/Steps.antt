-- ONE INDUCTION OVER A RUN. What seven kinds of steps keep, each of the fourteen calls keeps, and so does every run. The same with what a
-- history of calls and answers has taught: a history never reads the state. Here the notions; proofs/Steps.antt has the induction.
use Rattle.std.specs.Prelude.{◌≡◌, List, [], ◌∷◌, ◌++◌, Bool, cond, Option, Some, None, Ok}
use Rattle.std.proofs.Math.Path.{refl}
use Rattle.std.proofs.Common.{◌∙◌, ap}
use Rattle.std.proofs.Math.Bool.{false}
use Prim.Native.Nat.{ℕ}
use Rattle.wire_rules.specs.Frames.{io_of}
use Rattle.wire_rules.specs.Opens.{close_of}
use Rattle.rules.specs.declared.Event.TheVariants.{Closed}
use Rattle.rules.specs.Lists.{find, without_first, change_at}
use Rattle.rules.specs.State.{State, shape_at, with_contents, is_input, is_output}
use Rattle.rules.specs.Answers.{Answer, Accepted, is_yes}
use Rattle.rules.specs.Checks.{asks_multicast, place_of}
use Rattle.rules.specs.Opening.{opened, side_at, verdict_of, reply_of, open_asked, config_bytes}
use Rattle.rules.specs.Removal.{conn_triad, removed, expire_effect}
use Rattle.rules.specs.Receiving.{Frame, received, frame_of}
use Rattle.rules.specs.Producing.{produce_effect}
use Rattle.rules.specs.Host.{filled, read, next_event_effect}
use Rattle.rules.specs.Calls
use Rattle.rules.specs.Calls.{Call, answer, next, run}
use Rattle.rules_steps.specs.Names.{Triad, ForwardOpen, Origin, Conn, Info, Event, Plan}

-- WHAT A RUN TELLS the host: each call, and its answer
abbrev pub log : List Call → State → List (Call × Answer)
log [] s = []
log (c ∷ cs) s = (c, answer c s) ∷ log cs (next c s)

-- THE NEWS in a call and its answer: an open that was accepted (its time, the request, the request taken apart, where it came from, the
-- answer), a close that was done (whose), an I/O frame in time (when, from whom), an expiry call that was not refused (when); or none
pub data News : Type 0 where
  Opening : (time : ℕ) (request : List ℕ) (asked : ForwardOpen) (origin : Origin) (answer : Answer) → News
  Closing : (whose : Triad) → News
  Hearing : (time from : ℕ) (frame : Frame) → News
  Expiring : (time : ℕ) → News
  Nothing : News

abbrev pub asked_news : ℕ → List ℕ → Origin → Answer → Option ForwardOpen → News
asked_news t request g a None = Nothing
asked_news t request g a (Some q) = Opening t request q g a

abbrev pub close_news : Option Triad → News
close_news None = Nothing
close_news (Some k) = Closing k

abbrev pub frame_news : ℕ → ℕ → Option Frame → News
frame_news t from None = Nothing
frame_news t from (Some f) = Hearing t from f

-- what a call that was not refused brings
abbrev yes_news : Call → Answer → News
yes_news (Calls.Open t service request g room) a = asked_news t request g a (open_asked service request)
yes_news (Calls.OpenRefusal service request room) a = Nothing
yes_news (Calls.Close request room) a = close_news (close_of request)
yes_news (Calls.Receive t from frame) a = frame_news t from (frame_of frame (io_of frame))
yes_news (Calls.Produce t room) a = Nothing
yes_news (Calls.Expire t) a = Expiring t
yes_news (Calls.Deadline room) a = Nothing
yes_news (Calls.SetInput n bytes) a = Nothing
yes_news (Calls.ReadOutput n room) a = Nothing
yes_news (Calls.ReadAssembly kind n room) a = Nothing
yes_news (Calls.NextEvent room) a = Nothing
yes_news (Calls.Connections room) a = Nothing
yes_news (Calls.Stats room) a = Nothing
yes_news (Calls.Message local mask message room position) a = Nothing

-- a refusal brings none
abbrev pub news : Call → Answer → News
news c a = cond (is_yes a) (yes_news c a) Nothing

-- A READING of the news: what is learnt from each
pub record Reading (G : Type 0) : Type 0 where
  pub on_open : ℕ → List ℕ → ForwardOpen → Origin → Answer → G → G
  pub on_close : Triad → G → G
  pub on_frame : ℕ → ℕ → Frame → G → G
  pub on_expire : ℕ → G → G

module _ {G : Type 0} (r : Reading G) where
  abbrev pub learnt : News → G → G
  learnt (Opening t request q g a) w = r.on_open t request q g a w
  learnt (Closing k) w = r.on_close k w
  learnt (Hearing t from f) w = r.on_frame t from f w
  learnt (Expiring t) w = r.on_expire t w
  learnt Nothing w = w

  -- A HISTORY: what a reading has learnt from a log
  abbrev pub history : List (Call × Answer) → G → G
  history [] w = w
  history (x ∷ l) w = history l (learnt (news x.0 x.1) w)

  -- after one call more
  pub history_next : (cs : List Call) (c : Call) (s : State) (w : G) →
      history (log (cs ++ (c ∷ [])) s) w ≡ learnt (news c (answer c (run cs s))) (history (log cs s) w)
  history_next [] c s w = refl
  history_next (b ∷ cs) c s w = history_next cs c (next b s) (learnt (news b (answer b s)) w)

-- two readings at once
abbrev pub both : {G H : Type 0} → Reading G → Reading H → Reading (G × H)
both r q =
    record {
      on_open = λ t request o g a w. (r.on_open t request o g a w.0, q.on_open t request o g a w.1);
      on_close = λ k w. (r.on_close k w.0, q.on_close k w.1);
      on_frame = λ t from f w. (r.on_frame t from f w.0, q.on_frame t from f w.1);
      on_expire = λ t w. (r.on_expire t w.0, q.on_expire t w.1);
    }

pub both_learnt : {G H : Type 0} (r : Reading G) (q : Reading H) (n : News) (w : G × H) → learnt (both r q) n w ≡ (learnt r n w.0, learnt q n w.1)
both_learnt r q (Opening t request o g a) w = refl
both_learnt r q (Closing k) w = refl
both_learnt r q (Hearing t from f) w = refl
both_learnt r q (Expiring t) w = refl
both_learnt r q Nothing w = refl

pub both_history : {G H : Type 0} (r : Reading G) (q : Reading H) (l : List (Call × Answer)) (w : G × H) → history (both r q) l w ≡ (history r l w.0, history q l w.1)
both_history r q [] w = refl
both_history r q (x ∷ l) w =
    let n = news x.0 x.1 in
    ap (history (both r q) l) (both_learnt r q n w) ∙ both_history r q l (learnt r n w.0, learnt q n w.1)

pub run_next : (cs : List Call) (c : Call) (s : State) → run (cs ++ (c ∷ [])) s ≡ next c (run cs s)
run_next [] c s = refl
run_next (b ∷ cs) c s = run_next cs c (next b s)

-- the four steps of which no history learns: they are no open, close, frame or expiry
pub record Quiet (P : State → Type 0) : Type 0 where
  pub producing : (t : ℕ) (s : State) → P s → P (produce_effect t s)
  pub setting : (n i : ℕ) (bytes : List ℕ) (s : State) → place_of is_input s.setup n ≡ Some i → P s →
      P (with_contents (change_at i (filled (shape_at s.setup i).size bytes) s.contents) s)
  pub reading : (n i : ℕ) (s : State) → place_of is_output s.setup n ≡ Some i → P s → P (with_contents (change_at i read s.contents) s)
  pub noting : (s : State) → P s → P (next_event_effect s)

-- the removal of a connection that was found
abbrev pub Removing : (State → Type 0) → Type 0
Removing P =
    (fault : Bool) (why : Info → Event) (p : Conn → Bool) (c : Conn) (s : State) → find p s.table ≡ Some c → P s →
    P (removed fault why c (without_first p s.table) s)

-- AN INVARIANT: seven obligations
pub record Kept (P : State → Type 0) : Type 0 where
  pub quiet : Quiet P
  pub removing : Removing P
  pub opening : (t : ℕ) (request : List ℕ) (q : ForwardOpen) (g : Origin) (p : Plan) (s : State) → verdict_of request q s ≡ Ok p → P s →
      P (opened t q g (config_bytes request q) p s)
  pub hearing : (t from : ℕ) (f : Frame) (s : State) → P s → P (received t from f s)

-- the answer of an open that is accepted
abbrev pub acceptance : ForwardOpen → Origin → Plan → ℕ → Answer
acceptance q g p n = Accepted (asks_multicast q) (side_at q g p n).dest (reply_of q g p n)

-- A STATE AND WHAT A HISTORY TAUGHT
pub record Follows {G : Type 0} (r : Reading G) (P : G → State → Type 0) : Type 0 where
  pub quiet : (w : G) → Quiet (P w)
  pub opening : (t : ℕ) (request : List ℕ) (q : ForwardOpen) (g : Origin) (p : Plan) (s : State) (w : G) → verdict_of request q s ≡ Ok p → P w s →
      P (r.on_open t request q g (acceptance q g p s.next_id) w) (opened t q g (config_bytes request q) p s)
  pub closing : (k : Triad) (c : Conn) (s : State) (w : G) → find (conn_triad k) s.table ≡ Some c → P w s →
      P (r.on_close k w) (removed false Closed c (without_first (conn_triad k) s.table) s)
  pub expiring : (t : ℕ) (s : State) (w : G) → P w s → P (r.on_expire t w) (expire_effect t s)
  pub hearing : (t from : ℕ) (f : Frame) (s : State) (w : G) → P w s → P (r.on_frame t from f w) (received t from f s)
