-- Packets out, computed: chapter 10 of the rules, each line with its rule.
use Rattle.std.specs.Prelude.{Some, None}
use mathlib.Core.Path.{◌≡◌, refl}
use mathlib.Core.List.{List, [], ◌∷◌, ◌++◌}
use Prim.Native.Nat.{ℕ, ◌-◌, ◌^◌}
use Rattle.base_cells.specs.Numbers.{le_bytes}
use Rattle.base_cells.specs.BigEndian.{bytes_be}
use Rattle.wire_rules.specs.Frames.{io_frame}
use Rattle.wire_rules.specs.Examples.{Example, ◌is◌, Hold}
use Rattle.rules.specs.State.{Owner, InputOnly, ListenOnly, Setup, State}
use Rattle.rules.specs.Answers.{Answer, Wrote, Refused, NoRoom}
use Rattle.rules.specs.Producing.{sent, frame_sent, packet, packets, counters, produce_answer, produce_effect, produce_call}
use Rattle.rules.specs.Host.{set_input_answer, set_input_effect, set_input_call}
use Rattle.rules.specs.Checks.{place_of}
use Rattle.rules.proofs.Examples.{setup}
use Rattle.rules.proofs.Small.{party, alone, unheard, sending, conn, counting, line, sents}

-- a stream's producer (T→O RPI 2,000), one that joined it, and a point-to-point connection (3,000)
abbrev pub three : ℕ → ℕ → State
three due other =
    line (
    conn (party InputOnly 5 8) (unheard 80000) (sending 0 0 (Some due)) ∷
    conn (party ListenOnly 7 7) (unheard 80000) (sending 0 0 None) ∷
    conn (alone Owner 9 9) (unheard 80000) (sending 0x10 0x20 (Some other)) ∷ [])

-- the packets of the first and of the third, with 0x2A in the input
abbrev pub group : List ℕ
group =
    0xEF ∷ 0xC0 ∷ 0x01 ∷ 0x20 ∷ 0x08 ∷ 0xAE ∷ 1 ∷ 0x0A ∷ 0x01 ∷ 0x02 ∷ 0x03 ∷ 0 ∷ 21 ∷
    2 ∷ 0 ∷ 2 ∷ 0x80 ∷ 8 ∷ 0 ∷ 6 ∷ 0 ∷ 0 ∷ 0 ∷ 1 ∷ 0 ∷ 0 ∷ 0 ∷ 0xB1 ∷ 0 ∷ 3 ∷ 0 ∷ 1 ∷ 0 ∷ 0x2A ∷ []

abbrev pub single : List ℕ
single =
    0x0A ∷ 0x01 ∷ 0x02 ∷ 0x08 ∷ 0x12 ∷ 0x34 ∷ 0 ∷ 0x0A ∷ 0x01 ∷ 0x02 ∷ 0x03 ∷ 0 ∷ 21 ∷
    2 ∷ 0 ∷ 2 ∷ 0x80 ∷ 8 ∷ 0 ∷ 4 ∷ 3 ∷ 2 ∷ 1 ∷ 0x11 ∷ 0 ∷ 0 ∷ 0 ∷ 0xB1 ∷ 0 ∷ 3 ∷ 0 ∷ 0x21 ∷ 0 ∷ 0x2A ∷ []

-- the input set to 0x2A, then what is produced at a time with this much room
abbrev pub sent_at : ℕ → ℕ → State → Answer
sent_at t room st = (produce_call t room (set_input_call 101 (0x2A ∷ []) st).1).0

abbrev pub packets_out : List Example
packets_out =
    -- 10.1, 10.3, 10.5, 10.6: all that is due, in table order, one packet behind the other; who joined does not send
    (sent_at 5000 68 (three 5000 5000) is Wrote (group ++ single)) ∷
    -- 10.2: due at its due time, not one before
    (sent_at 5000 68 (three 5000 5001) is Wrote group) ∷
    (sent_at 5000 68 (three 5001 5000) is Wrote single) ∷
    -- 10.1: once, however late
    (sent_at 50000 68 (three 0 50001) is Wrote group) ∷
    -- 10.7: nothing due is a yes of no bytes
    (sent_at 4999 0 (three 5000 5000) is Wrote []) ∷
    -- 10.8: too little room for all, and nothing steps
    (produce_call 5000 67 (three 5000 5000) is (Refused NoRoom, three 5000 5000)) ∷
    []

pub packets_out_lem : Hold packets_out
unfolding produce_call produce_answer produce_effect packets packet frame_sent sent counters io_frame le_bytes bytes_be set_input_call set_input_answer set_input_effect place_of
packets_out_lem = (refl, (refl, (refl, (refl, (refl, (refl, tt))))))

-- what the first connection sends next, after a call at a time
abbrev pub stepped : ℕ → State → State
stepped t st = (produce_call t 100 st).1

-- a producer alone, at a sequence and a CIP sequence
abbrev pub one : ℕ → ℕ → ℕ → State
one sequence cip due = line (conn (party InputOnly 5 8) (unheard 80000) (sending sequence cip (Some due)) ∷ [])

abbrev pub steps : List Example
steps =
    -- 10.3: both sequences step by one, the sequence over 32 bits, the CIP sequence over 16
    (sents (stepped 5000 (one 0xFFFF 0xFFFF 5000)) is sending 0x10000 0 (Some 7000) ∷ []) ∷
    (sents (stepped 5000 (one 0x7FFFFFFF 0x7FFF 5000)) is sending 0x80000000 0x8000 (Some 7000) ∷ []) ∷
    (sents (stepped 5000 (one 0xFFFFFFFF 0 5000)) is sending 0 1 (Some 7000) ∷ []) ∷
    -- 10.4: the next due time is the old one and the T→O RPI
    (sents (stepped 5999 (one 0 0 5000)) is sending 1 1 (Some 7000) ∷ []) ∷
    (sents (stepped 6999 (one 0 0 5000)) is sending 1 1 (Some 7000) ∷ []) ∷
    -- 10.4: where that is not after now, now and the RPI
    (sents (stepped 7000 (one 0 0 5000)) is sending 1 1 (Some 9000) ∷ []) ∷
    (sents (stepped 50000 (one 0 0 5000)) is sending 1 1 (Some 52000) ∷ []) ∷
    -- what is not due does not step
    (sents (stepped 5000 (three 5001 5000)) is sending 0 0 (Some 5001) ∷ sending 0 0 None ∷ sending 0x11 0x21 (Some 8000) ∷ []) ∷
    []

pub steps_out : Hold steps
unfolding produce_call produce_answer produce_effect packets packet frame_sent sent counters io_frame le_bytes bytes_be
steps_out = (refl, (refl, (refl, (refl, (refl, (refl, (refl, (refl, tt))))))))

-- the line with a late limit
abbrev pub limited : ℕ → Setup
limited late =
    record {
      identity = setup.identity;
      input_only = setup.input_only;
      listen_only = setup.listen_only;
      rpi_min = setup.rpi_min;
      rpi_max = setup.rpi_max;
      late_limit = late;
      transfer_limit = setup.transfer_limit;
      mac = setup.mac;
      eds = setup.eds;
      eds_name = setup.eds_name;
      assemblies = setup.assemblies;
    }

abbrev pub lateness : List Example
lateness =
    -- 10.9: late is the late limit or more; 10.10: 0 means 1,000
    (counters (limited 0) (999 ∷ 1000 ∷ 1001 ∷ []) (counting 0 0 0) is counting 3 2 1001) ∷
    (counters (limited 1) (0 ∷ 1 ∷ 2 ∷ []) (counting 0 0 0) is counting 3 2 2) ∷
    (counters (limited 5000) (1000 ∷ 4999 ∷ 5000 ∷ []) (counting 10 10 0) is counting 13 11 5000) ∷
    -- 10.11: the greatest lateness of all packets, late or not, since the setup
    (counters (limited 0) (7 ∷ 3 ∷ []) (counting 0 0 5) is counting 2 0 7) ∷
    (counters (limited 0) (7 ∷ 3 ∷ []) (counting 0 0 8) is counting 2 0 8) ∷
    -- 10.12: `produced` and `late` stop at their largest value
    (counters (limited 0) (1000 ∷ 1000 ∷ []) (counting (2 ^ 64 - 2) (2 ^ 64 - 1) 0) is counting (2 ^ 64 - 1) (2 ^ 64 - 1) 1000) ∷
    -- lateness is now minus the due time
    ((stepped 6500 (three 5000 6500)).counters is counting 2 1 1500) ∷
    []

pub lateness_counted : Hold lateness
unfolding produce_call produce_answer produce_effect packets packet frame_sent sent counters io_frame le_bytes bytes_be
lateness_counted = (refl, (refl, (refl, (refl, (refl, (refl, (refl, tt)))))))

-- nothing but the table and the counters: 11.4, the fault mark stays
pub produce_leaves : (t : ℕ) (st : State) →
    ((produce_effect t st).contents ≡ st.contents) × ((produce_effect t st).events ≡ st.events) × ((produce_effect t st).fault ≡ st.fault) ×
    ((produce_effect t st).next_id ≡ st.next_id)
unfolding produce_effect
produce_leaves t st = (refl, refl, refl, refl)
