-- Removal, by a close or by silence: who sends a stream on, which listeners close, what the output keeps, and what is told.
use Rattle.std.specs.Prelude.{Option, Some, None}
use mathlib.Core.Path.{◌≡◌, refl}
use mathlib.Core.List.{List, [], ◌∷◌, map}
use mathlib.Core.Bool.{Bool, true, false}
use Prim.Native.Nat.{ℕ}
use lib.ListN.{get_or}
use Rattle.rules.specs.State.{Kind, Owner, InputOnly, ListenOnly, Triad, State, Content, Conn, with_contents, with_table, with_fault}
use Rattle.rules.specs.Answers
use Rattle.rules.specs.Answers.{Wrote, Refused}
use Rattle.rules.specs.Removal.{closed, close_call, expired_first}
use Rattle.rules.proofs.Examples.{ending}
use Rattle.rules.proofs.Plant.{plant}
use Rattle.rules.proofs.Computing.{openings, removals}

abbrev pub triad : ℕ → Triad
triad serial = record { serial = serial; vendor = 1; originator = 1 }

-- a connection of the plant: kind, serial number and O→T id, T→O id, multicast or not, output by its place; what it has sent
abbrev pub conn : Kind → ℕ → ℕ → Bool → ℕ → ℕ → Option ℕ → Conn
conn kind n toid multicast output sequence due =
    record {
      fixed =
          record {
            kind = kind;
            triad = triad n;
            originator = 8;
            otid = record { 0 = n };
            toid = record { 0 = toid };
            otrpi = 10000;
            multiplier = 0;
            torpi = 10000;
            input = 1;
            output = output;
            dest = record { address = 8; port = 2222 };
            multicast = multicast;
            local = 2;
          };
      heard = record { until = 41000; any = false; sequence = 0; anycip = false; cip = 0 };
      sent = record { sequence = sequence; cip = sequence; due = due };
    }

-- an owner of 150 that sends stream 6; one that joined a stream, and a listener; a stream of one's own; point-to-point
abbrev pub owner : Conn
owner = conn Owner 5 6 true 0 3 (Some 11000)

abbrev pub joined : ℕ → ℕ → Conn
joined n toid = conn InputOnly n toid true 0 0 None

abbrev pub listens : ℕ → ℕ → Conn
listens n toid = conn ListenOnly n toid true 0 0 None

abbrev pub sends : ℕ → ℕ → Conn
sends n toid = conn InputOnly n toid true 0 8 (Some 19000)

abbrev pub single : ℕ → ℕ → Conn
single n toid = conn InputOnly n toid false 0 9 (Some 20000)

abbrev pub holding : List Conn → State
holding table = with_table table plant

-- of each connection its O→T id, its sequences and when the next packet is due
abbrev pub pace : State → List (ℕ × ℕ × ℕ × Option ℕ)
pace st = map (λ c. (c.fixed.otid.0, c.sent.sequence, c.sent.cip, c.sent.due)) st.table

pub hand_over :
    -- 8.1: a point-to-point connection hands nothing to a stream of its number
    (pace (closed (triad 7) (holding (owner ∷ single 7 6 ∷ joined 8 6 ∷ []))) ≡ (5, 3, 3, Some 11000) ∷ (8, 0, 0, None) ∷ []) ×
    -- 8.2: nor does one that does not produce
    (pace (closed (triad 8) (holding (owner ∷ joined 8 6 ∷ []))) ≡ (5, 3, 3, Some 11000) ∷ []) ×
    -- 8.3, 8.5: the first that is left sends on, a listener too, with both sequences and the due time
    (pace (closed (triad 5) (holding (owner ∷ listens 7 6 ∷ joined 8 6 ∷ []))) ≡ (7, 3, 3, Some 11000) ∷ (8, 0, 0, None) ∷ []) ×
    -- 8.4: not one of another stream, nor a point-to-point one of its number
    (pace (closed (triad 5) (holding (sends 6 7 ∷ owner ∷ single 8 6 ∷ joined 9 6 ∷ []))) ≡
    (6, 8, 8, Some 19000) ∷ (8, 9, 9, Some 20000) ∷ (9, 3, 3, Some 11000) ∷ [])
unfolding openings removals
hand_over = (refl, refl, refl, refl)

-- the O→T ids that are left; of each event what it tells, and the O→T id
abbrev pub left : State → List ℕ × List (ℕ × ℕ)
left st = (map (λ c. c.fixed.otid.0) st.table, map (λ e. (get_or e 0 0, get_or e 16 0)) st.events.waiting)

pub listeners :
    -- 8.6, 8.10, 8.11: they close in table order, then the one that was closed is told
    (left (closed (triad 5) (holding (listens 7 6 ∷ owner ∷ listens 8 6 ∷ []))) ≡ ([], (2, 7) ∷ (2, 8) ∷ (2, 5) ∷ [])) ×
    -- 8.12: of one that fell silent it is told that it timed out; its listeners close as ever
    (left (expired_first 41001 (holding (owner ∷ listens 7 6 ∷ []))) ≡ ([], (2, 7) ∷ (3, 5) ∷ [])) ×
    -- 8.7: while another than a listener is left they stay
    (left (closed (triad 5) (holding (owner ∷ listens 7 6 ∷ joined 8 6 ∷ []))) ≡ (7 ∷ 8 ∷ [], (2, 5) ∷ [])) ×
    -- 8.8: a listener that goes takes none with it
    (left (closed (triad 7) (holding (listens 7 6 ∷ listens 8 6 ∷ []))) ≡ (8 ∷ [], (2, 7) ∷ [])) ×
    -- 8.9: those of another stream stay
    (left (closed (triad 5) (holding (owner ∷ sends 6 7 ∷ listens 8 7 ∷ listens 9 6 ∷ []))) ≡ (6 ∷ 8 ∷ [], (2, 9) ∷ (2, 5) ∷ []))
unfolding openings removals
listeners = (refl, refl, refl, refl, refl)

-- an assembly with bytes, in run or not, whose Output event waits; three of them
abbrev pub content : Bool → Content
content run = record { bytes = 7 ∷ 8 ∷ []; run = run; notified = true }

abbrev pub running : State
running = with_contents (content true ∷ content true ∷ content true ∷ []) (holding (owner ∷ conn Owner 6 6 true 2 0 None ∷ joined 7 6 ∷ []))

pub outputs :
    -- 8.13, 8.14, 8.15: the output of the one that goes loses run, and that alone; bytes and mark stay
    ((closed (triad 6) running).contents ≡ content true ∷ content true ∷ content false ∷ []) ×
    -- with one that owns no output, none does
    ((closed (triad 7) running).contents ≡ content true ∷ content true ∷ content true ∷ [])
unfolding openings removals
outputs = (refl, refl)

-- 8.16: a close leaves the fault mark as it is, silence sets it
pub fault_mark : (map (λ b. (closed (triad 5) (with_fault b (holding (owner ∷ [])))).fault) (true ∷ false ∷ []) ≡ true ∷ false ∷ []) ×
    ((expired_first 41001 (holding (owner ∷ []))).fault ≡ true)
unfolding openings removals
fault_mark = (refl, refl)

abbrev pub three : State
three = holding (single 5 1 ∷ single 6 2 ∷ single 7 3 ∷ [])

pub closes :
    -- 8.17: the others stay as they are, in their order
    ((closed (triad 6) three).table ≡ single 5 1 ∷ single 7 3 ∷ []) ×
    -- 8.18: the reply is the triad and two zero bytes
    ((close_call (ending 6) 10 three).0 ≡ Wrote (6 ∷ 0 ∷ 1 ∷ 0 ∷ 1 ∷ 0 ∷ 0 ∷ 0 ∷ 0 ∷ 0 ∷ [])) ×
    -- with too little room for it nothing is done
    (close_call (ending 6) 9 three ≡ (Refused Answers.NoRoom, three))
unfolding openings removals
closes = (refl, refl, refl)
