-- Demand 3 on examples: pairs of runs, of which proofs/Examples.antt proves that the premise is met in the subtle case, and that without
-- it the conclusion fails.
use Rattle.std.specs.Prelude.{List, [], ◌∷◌, ◌++◌, map, ℕ, get_or}
use Rattle.wire_rules.specs.Frames.{io_frame}
use Rattle.rules.specs.Calls.{Call}
use Rattle.rules.proofs.Examples.{ask, from, points, ending}
use Rattle.rules.specs.State.{State}
use Rattle.rules_steps.specs.Names.{Triad, Conn}
use Rattle.rules_isolation.specs.Demand.{Paired, end, both, second_only}

-- an open of serial number n at a point, multicast, with an O→T RPI that decides the timeout
abbrev opening : ℕ → ℕ → ℕ → ℕ → Call
opening n point rpi peer = Call.Open 0 0x54 (ask n 0 0 rpi 0x4000 10000 0x2003 (points point)) (from peer) 26

-- 8 starts a stream, 7 listens, 9 joins, 8 closes: the listener of 7 now produces, and stands before the connection of 9
abbrev pub calls : List Call
calls = opening 1 198 10000 8 ∷ opening 2 199 10000 7 ∷ opening 3 198 10000 9 ∷ Call.Produce 0 100 ∷ Call.Close (ending 1) 10 ∷ []

abbrev pub brief : Conn → ℕ × ℕ × ℕ
brief c = (c.fixed.triad.serial, c.fixed.toid.0, c.sent.sequence)

-- in one run the listener of 7 times out; in the other a heartbeat of 7 keeps it, and it closes with its stream when 9 times out
abbrev pub heartbeat : List ℕ
heartbeat = io_frame 7 1 1 []

abbrev pub first : List Call
first = calls ++ (Call.Expire 50000 ∷ [])

abbrev pub second : List Call
second = calls ++ (Call.Receive 30000 7 heartbeat ∷ Call.Expire 50000 ∷ [])

abbrev pub pair : Paired 7 first second
pair =
    both (opening 1 198 10000 8)
    (both (opening 2 199 10000 7)
    (both (opening 3 198 10000 9)
    (both (Call.Produce 0 100) (both (Call.Close (ending 1) 10) (second_only 30000 heartbeat (both (Call.Expire 50000) end))))))

-- the one times out first, the other goes with its stream: told by the order of the events (3 timed out, 2 closed)
abbrev pub told : State → List ℕ
told st = map (λ e. get_or e 0 0) st.events.waiting

-- 8 listens to a stream of 7
abbrev pub theirs : List Call
theirs = opening 1 198 10000 7 ∷ opening 2 199 100000 8 ∷ []

abbrev pub triad : ℕ → Triad
triad n = record { serial = n; vendor = 1; originator = 1 }
