-- WHAT A CALL TELLS: its events in their order, before the list drops any; and the list that a call leaves is the list before with these
-- pushed onto it, one after the other (proofs/Told.antt). Only next_event takes one away.
use Rattle.std.specs.Prelude.{List, [], ◌∷◌, ◌++◌, Bool, cond, ℕ, zero, suc, length, Option, Some, None, Result, Ok, Err}
use Rattle.base_ids.specs.declared.Triad.{Triad}
use Rattle.rules.specs.declared.Plan.{Plan}
use Rattle.rules.specs.declared.Stop.{Stop}
use Rattle.wire_rules.specs.Frames.{io_of}
use Rattle.wire_rules.specs.Opens.{close_of}
use Rattle.rules.specs.declared.Event.TheVariants.{Opened, Closed, TimedOut}
use Rattle.rules.specs.Lists.{find, without_first, maybe}
use Rattle.rules.specs.State.{Setup, Events, State}
use Rattle.rules.specs.Answers.{is_yes}
use Rattle.rules.specs.Events.{info_of, oldest_gone}
use Rattle.rules.specs.Opening.{new_fixed, config_event, verdict_of, open_asked, config_bytes}
use Rattle.rules.specs.Removal.{handed_over, listeners_of, closed_events, conn_triad, expired, expired_first}
use Rattle.rules.specs.Receiving.{Frame, meant_for, output_events, frame_of}
use Rattle.rules.specs.Calls
use Rattle.rules.specs.Calls.{Call, answer}
use Rattle.rules_steps.specs.Names.{ForwardOpen, Origin, Conn, Info, Event}

-- an accepted open: Opened, then the configuration data that it stored
abbrev pub plan_told : State → ForwardOpen → Origin → List ℕ → Result Plan Stop → List Event
plan_told s q g bytes (Err x) = []
plan_told s q g bytes (Ok p) = Opened (info_of s.setup (new_fixed q g p s.next_id)) ∷ config_event s.setup p.stores bytes

abbrev pub asked_told : Origin → List ℕ → State → Option ForwardOpen → List Event
asked_told g request s None = []
asked_told g request s (Some q) = plan_told s q g (config_bytes request q) (verdict_of request q s)

-- a removal: the listeners that close with it in table order, then its own
abbrev pub removal_told : (Info → Event) → Conn → List Conn → Setup → List Event
removal_told why c rest u = closed_events u (listeners_of c (handed_over c rest)) ++ (why (info_of u c.fixed) ∷ [])

abbrev pub gone_told : (Info → Event) → (Conn → Bool) → State → Option Conn → List Event
gone_told why p s x = maybe [] (λ c. removal_told why c (without_first p s.table) s.setup) x

abbrev pub close_told : State → Option Triad → List Event
close_told s None = []
close_told s (Some k) = gone_told Closed (conn_triad k) s (find (conn_triad k) s.table)

-- an expiry: each removal's in its turn
abbrev pub expire_told : ℕ → ℕ → State → List Event
expire_told t zero s = []
expire_told t (suc n) s = gone_told TimedOut (expired t) s (find (expired t) s.table) ++ expire_told t n (expired_first t s)

abbrev pub frame_told : ℕ → State → Option Frame → List Event
frame_told from s None = []
frame_told from s (Some f) = maybe [] (λ c. output_events s.setup f c s.contents) (find (meant_for from f) s.table)

-- what it tells where it is not refused
abbrev yes_told : Call → State → List Event
yes_told (Calls.Open t service request g room) s = asked_told g request s (open_asked service request)
yes_told (Calls.OpenRefusal service request room) s = []
yes_told (Calls.Close request room) s = close_told s (close_of request)
yes_told (Calls.Receive t from frame) s = frame_told from s (frame_of frame (io_of frame))
yes_told (Calls.Produce t room) s = []
yes_told (Calls.Expire t) s = expire_told t (length s.table) s
yes_told (Calls.Deadline room) s = []
yes_told (Calls.SetInput n bytes) s = []
yes_told (Calls.ReadOutput n room) s = []
yes_told (Calls.ReadAssembly kind n room) s = []
yes_told (Calls.NextEvent room) s = []
yes_told (Calls.Connections room) s = []
yes_told (Calls.Stats room) s = []
yes_told (Calls.Message local mask message room position) s = []

-- WHAT A CALL TELLS; a refusal tells nothing
abbrev pub told : Call → State → List Event
told c s = cond (is_yes (answer c s)) (yes_told c s) []

-- the list once the host has read: next_event takes the oldest, the other calls none
abbrev pub unread : Call → State → Events
unread (Calls.Open t service request g room) s = s.events
unread (Calls.OpenRefusal service request room) s = s.events
unread (Calls.Close request room) s = s.events
unread (Calls.Receive t from frame) s = s.events
unread (Calls.Produce t room) s = s.events
unread (Calls.Expire t) s = s.events
unread (Calls.Deadline room) s = s.events
unread (Calls.SetInput n bytes) s = s.events
unread (Calls.ReadOutput n room) s = s.events
unread (Calls.ReadAssembly kind n room) s = s.events
unread (Calls.NextEvent room) s = cond (is_yes (answer (Calls.NextEvent room) s)) (oldest_gone s.events) s.events
unread (Calls.Connections room) s = s.events
unread (Calls.Stats room) s = s.events
unread (Calls.Message local mask message room position) s = s.events
