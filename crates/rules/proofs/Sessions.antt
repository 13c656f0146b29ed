-- Two sessions that send messages in any order: each gets what it would get alone, and no message changes the state. Rules 13.21, 14.12.
use Rattle.std.specs.Prelude.{Option}
use Rattle.rules.specs.declared.objects.Position.{Position}
use mathlib.Core.List.{List, [], ◌∷◌}
use mathlib.Core.Path.{◌≡◌, refl, ap}
use Prim.Native.Nat.{ℕ}
use Rattle.rules.specs.State.{State}
use Rattle.rules.specs.Answers.{Answer}
use Rattle.rules.specs.Message.{message_call}
use Rattle.rules.specs.Calls.{Call, next}

-- a message as it comes: local address and mask, its bytes, the room for its reply
pub record Asked : Type 0 where
  pub local : ℕ
  pub mask : ℕ
  pub message : List ℕ
  pub room : ℕ

-- whose message it is
pub data Said : Type 0 where
  mine : Asked → Said
  theirs : Asked → Said

-- the answer and the position left, and the state left
abbrev pub answered : Asked → State → Option Position → Answer × Option Position
answered a st up = message_call a.local a.mask a.message a.room st up

abbrev pub after : Asked → Option Position → State → State
after a up st = next (Call.Message a.local a.mask a.message a.room up) st

-- what one session gets while another speaks too, each with its own position
abbrev pub among : List Said → State → Option Position → Option Position → List (Answer × Option Position)
among [] st up other = []
among (mine a ∷ rest) st up other = answered a st up ∷ among rest (after a up st) (answered a st up).1 other
among (theirs a ∷ rest) st up other = among rest (after a other st) up (answered a st other).1

-- what it gets where the other is silent
abbrev pub alone : List Said → State → Option Position → List (Answer × Option Position)
alone [] st up = []
alone (mine a ∷ rest) st up = answered a st up ∷ alone rest (after a up st) (answered a st up).1
alone (theirs a ∷ rest) st up = alone rest st up

-- 13.21: for every message, position and state
pub message_keeps : (a : Asked) (up : Option Position) (st : State) → after a up st ≡ st
message_keeps a up st = refl

-- 14.12: for every order in which the two speak
pub sessions_apart : (said : List Said) (st : State) (up other : Option Position) → among said st up other ≡ alone said st up
sessions_apart [] st up other = refl
sessions_apart (mine a ∷ rest) st up other =
    ap (λ (l : List (Answer × Option Position)). answered a st up ∷ l) (sessions_apart rest (after a up st) (answered a st up).1 other)
sessions_apart (theirs a ∷ rest) st up other = sessions_apart rest (after a other st) up (answered a st other).1
