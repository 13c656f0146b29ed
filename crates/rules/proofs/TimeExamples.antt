-- Time, computed: chapter 11 of the rules, each line with its rule.
use Rattle.std.specs.Prelude.{Some, None}
use mathlib.Core.Path.{◌≡◌, refl}
use mathlib.Core.List.{List, [], ◌∷◌, map}
use mathlib.Core.Bool.{true, false}
use Prim.Native.Nat.{ℕ, ◌+◌, ◌^◌}
use Rattle.base_cells.specs.Numbers.{le, le_of, le_bytes}
use Rattle.wire_rules.specs.Examples.{Example, ◌is◌, Hold}
use Rattle.wire_rules.specs.declared.ForwardOpen.{ForwardOpen}
use Rattle.rules.specs.State.{InputOnly, ListenOnly, Conn, Origin, Plan, State, with_fault}
use Rattle.rules.specs.Answers.{Wrote, Gone, Refused, NoRoom, NothingThere}
use Rattle.rules.specs.Events.{info_of, info_record, event_record, oldest_gone, appended, pushed, pushed_all}
use Rattle.rules.specs.Opening.{opened}
use Rattle.rules.specs.Removal.{removed, closed, expired_first, expire_effect, expire_answer, expire_call, deadline_answer}
use Rattle.rules.proofs.Small.{party, alone, unheard, sending, conn, line, untils, told}

-- a producing point-to-point connection: O→T id, until when it lives, when it is due
abbrev pub living : ℕ → ℕ → ℕ → Conn
living otid until due = conn (alone InputOnly otid 9) (unheard until) (sending 0 0 (Some due))

-- three that nobody was heard of, the second for longest
abbrev pub silent : State
silent = line (living 5 30000 99000 ∷ living 7 20000 99000 ∷ living 9 40000 99000 ∷ [])

abbrev pub expiry : List Example
expiry =
    -- 11.1: only when more than the timeout has passed
    (expire_call 20000 silent is (Gone 0, silent)) ∷
    ((expire_call 20001 silent).0 is Gone 1) ∷
    (untils (expire_call 20001 silent).1 is 30000 ∷ 40000 ∷ []) ∷
    -- 11.1: a clock that stands behind expires nothing
    ((expire_call 0 (line (living 5 180000 99000 ∷ []))).0 is Gone 0) ∷
    -- 11.3: all that expired, the first in the table first, told as timed out
    ((expire_call 30001 silent).0 is Gone 2) ∷
    (untils (expire_call 30001 silent).1 is 40000 ∷ []) ∷
    (map (λ e. le 4 e 16) (expire_call 40001 silent).1.events.waiting is 5 ∷ 7 ∷ 9 ∷ []) ∷
    (told (expire_call 40001 silent).1 is 3 ∷ 3 ∷ 3 ∷ []) ∷
    -- 11.4: it sets the fault mark, where anything expired; a close leaves the mark as it is
    ((expire_call 20001 silent).1.fault is true) ∷
    ((closed (record { serial = 7; vendor = 1; originator = 1 }) silent).fault is false) ∷
    ((closed (record { serial = 7; vendor = 1; originator = 1 }) (with_fault true silent)).fault is true) ∷
    []

pub expiry_in_turn : Hold expiry
unfolding expire_call expire_answer expire_effect expired_first removed closed pushed pushed_all appended oldest_gone event_record info_of info_record le_bytes le le_of
expiry_in_turn = (refl, (refl, (refl, (refl, (refl, (refl, (refl, (refl, (refl, (refl, (refl, tt)))))))))))

-- 11.5: an accepted open clears the fault mark
pub open_clears : (t : ℕ) (o : ForwardOpen) (g : Origin) (bytes : List ℕ) (p : Plan) (st : State) → (opened t o g bytes p st).fault ≡ false
unfolding opened
open_clears t o g bytes p st = refl

-- one that does not produce
abbrev pub joined : ℕ → Conn
joined until = conn (party ListenOnly 7 7) (unheard until) (sending 0 0 None)

abbrev pub deadlines : List Example
deadlines =
    -- 11.6: the least of all: a due time, a timeout, wherever in the table it stands
    (deadline_answer 8 (line (living 5 30000 9000 ∷ living 7 20000 8000 ∷ living 9 40000 9500 ∷ [])) is Wrote (le_bytes 8 8000)) ∷
    (deadline_answer 8 (line (living 5 30000 99000 ∷ living 7 20000 99000 ∷ living 9 40000 99000 ∷ [])) is Wrote (le_bytes 8 20000)) ∷
    (deadline_answer 8 (line (living 5 30000 99000 ∷ living 7 20000 99000 ∷ joined 10000 ∷ [])) is Wrote (le_bytes 8 10000)) ∷
    (deadline_answer 8 (line (living 5 30000 5000 ∷ joined 10000 ∷ [])) is Wrote (le_bytes 8 5000)) ∷
    -- 11.7: 8 bytes, little-endian, as it is, above 2^63 - 1 too
    (deadline_answer 8 (line (joined 0x0102030405060708 ∷ [])) is Wrote (8 ∷ 7 ∷ 6 ∷ 5 ∷ 4 ∷ 3 ∷ 2 ∷ 1 ∷ [])) ∷
    (deadline_answer 8 (line (joined (2 ^ 63 + 1) ∷ [])) is Wrote (1 ∷ 0 ∷ 0 ∷ 0 ∷ 0 ∷ 0 ∷ 0 ∷ 0x80 ∷ [])) ∷
    -- 11.8: without a connection there is none, whatever the room
    (deadline_answer 7 (line (joined 5 ∷ [])) is Refused NoRoom) ∷
    (deadline_answer 0 (line []) is Refused NothingThere) ∷
    []

pub deadlines_told : Hold deadlines
unfolding deadline_answer le_bytes
deadlines_told = (refl, (refl, (refl, (refl, (refl, (refl, (refl, (refl, tt))))))))
