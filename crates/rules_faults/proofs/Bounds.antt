-- The table and the event list stay within their bounds: each kind of call keeps `Bounded`, and so every run does.
use Rattle.std.specs.Prelude.{◌≡◌, List, [], ◌∷◌, Bool, ℕ, ◌≤◌, ◌<◌, ltb, length, Some, Ok}
use Rattle.std.proofs.Common.{arith, length-append, length-drop, ltb-true, ltb-false}
use Rattle.std.proofs.lemmas.List.{length-map}
use Rattle.rules.specs.Lists.{find, without_first}
use Rattle.rules_laws.specs.ListLaws
use Rattle.rules_laws.specs.ListLaws.{by_cases}
use Rattle.rules.specs.State.{Setup, Events, State, fixeds}
use Rattle.rules.specs.Setup.{fresh}
use Rattle.rules.specs.Events.{oldest_gone, appended, pushed, pushed_all}
use Rattle.rules.specs.Checks.{room_check}
use Rattle.rules_laws.specs.CheckLaws
use Rattle.rules.specs.Opening.{opened, asked_path, verdict_of, config_bytes}
use Rattle.rules.specs.Removal.{removed}
use Rattle.rules.specs.Receiving.{Frame, meant_for, hear, received}
use Rattle.rules.specs.Producing.{sends, produce_effect}
use Rattle.rules.specs.Host.{next_event_effect}
use Rattle.rules.specs.Calls.{Call, run}
use Rattle.rules_steps.specs.Names.{ForwardOpen, Origin, Conn, Info, Event, Plan}
use Rattle.rules_steps.specs.Steps.{Kept}
use Rattle.rules_steps.proofs.Steps.{run_kept}
use Rattle.rules_isolation.specs.Ends.{length_removal}
use Rattle.rules_faults.specs.Bounds.{Bounded}

pushed_bound : (e : Event) (es : Events) → length es.waiting ≤ 1024 → length (pushed e es).waiting ≤ 1024
unfolding pushed appended oldest_gone
pushed_bound e es h =
    by_cases (ltb (length es.waiting) 1024)
    (λ y. let k = ltb-true (length es.waiting) 1024 y in rw y (simp length-append (omega arith)))
    (λ n. let k = ltb-false (length es.waiting) 1024 n in rw n (simp (length-append, length-drop) (omega arith)))

pushed_all_bound : (l : List Event) (es : Events) → length es.waiting ≤ 1024 → length (pushed_all l es).waiting ≤ 1024
unfolding pushed_all
pushed_all_bound [] es h = h
pushed_all_bound (e ∷ l) es h = pushed_all_bound l (pushed e es) (pushed_bound e es h)

read_bound : (es : Events) → length es.waiting ≤ 1024 → length (oldest_gone es).waiting ≤ 1024
unfolding oldest_gone
read_bound es h = simp length-drop (omega arith)

room_left : (request : List ℕ) (q : ForwardOpen) (s : State) (p : Plan) → verdict_of request q s ≡ Ok p → length s.table < 32
unfolding verdict_of room_check
room_left request q s p e =
    let x = CheckLaws.passed s.setup (fixeds s.table) q (asked_path request q) p e in
    let r = CheckLaws.must_none (ltb (length (fixeds s.table)) 32) _ x.0.room in
    let k = ltb-true (length (fixeds s.table)) 32 r in
    let m = length-map s.table (λ c. c.fixed) in
    omega arith

opening : (t : ℕ) (request : List ℕ) (q : ForwardOpen) (g : Origin) (p : Plan) (s : State) → verdict_of request q s ≡ Ok p → Bounded s →
    Bounded (opened t q g (config_bytes request q) p s)
unfolding opened
opening t request q g p s e h =
    let r = room_left request q s p e in
    record { connections = simp length-append (omega arith); events = pushed_all_bound _ s.events h.events }

removing : (fault : Bool) (why : Info → Event) (p : Conn → Bool) (c : Conn) (s : State) → find p s.table ≡ Some c → Bounded s →
    Bounded (removed fault why c (without_first p s.table) s)
unfolding removed
removing fault why p c s e h =
    let a = length_removal c (without_first p s.table) in
    let b = ListLaws.length_without p c s.table e in
    record { connections = omega arith; events = pushed_bound _ _ (pushed_all_bound _ s.events h.events) }

hearing : (t from : ℕ) (f : Frame) (s : State) → Bounded s → Bounded (received t from f s)
unfolding received
hearing t from f s h =
    let a = ListLaws.length_change (meant_for from f) (hear t f) s.table in
    record { connections = omega arith; events = pushed_all_bound _ s.events h.events }

producing : (t : ℕ) (s : State) → Bounded s → Bounded (produce_effect t s)
unfolding produce_effect
producing t s h = let a = length-map s.table (sends t) in record { connections = omega arith; events = h.events }

noting : (s : State) → Bounded s → Bounded (next_event_effect s)
unfolding next_event_effect
noting s h = record { connections = h.connections; events = read_bound s.events h.events }

bounded_kept : Kept Bounded
bounded_kept =
    record {
      quiet =
          record {
            producing = producing;
            setting = λ n i bytes s e h. record { connections = h.connections; events = h.events };
            reading = λ n i s e h. record { connections = h.connections; events = h.events };
            noting = noting;
          };
      removing = removing;
      opening = opening;
      hearing = hearing;
    }

-- NO LIST GROWS WITHOUT LIMIT
pub always_bounded : (u : Setup) (seed : ℕ) (cs : List Call) → Bounded (run cs (fresh u seed))
unfolding fresh
always_bounded u seed cs = run_kept Bounded bounded_kept cs (fresh u seed) (record { connections = omega arith; events = omega arith })
