-- THE C FUNCTIONS FOLLOW THE RULES. Whoever sets lent bytes up and is answered 0, and then calls the C functions in any order, with
-- whatever it passes and lends, has after each call bytes that pass the state test and that say what a run of the rules says, and was
-- answered what the rules answer. Nothing is asked of the bytes and answers but that they meet the functions' own contracts.
use Rattle.std.specs.Prelude.{ℕ, true, List, [], ◌∷◌, ◌≡◌}
use Rattle.rules.specs.State.{Setup, State}
use Rattle.rules.specs.Setup.{fresh}
use Rattle.rules.specs.Calls.{Call, run}
use Rattle.state_rules.specs.Image.{view, tested}
use Rattle.app_starting.specs.Block.{setup_call}
use Rattle.host_runs.specs.CallContracts.{Said, Met, Answers}
use Rattle.host_runs.specs.HostCalls.{CCall, contract, next_c, answer_c}

-- a call, and what it answered
abbrev pub Turn : Type 0
Turn = CCall × Said

-- calls one after the other on one lent buffer, each of which met its contract: the bytes found first, and those left last
pub data Ran : List Turn → List ℕ → List ℕ → Type 0 where
  none : {s : List ℕ} → Ran [] s s
  one : (c : CCall) (a : Said) {ts : List Turn} {s s' s'' : List ℕ} → Met (contract c) s s' a → Ran ts s' s'' → Ran ((c, a) ∷ ts) s s''

-- the rules' run of them
abbrev pub run_c : List Turn → State → State
run_c [] st = st
run_c (t ∷ ts) st = run_c ts (next_c t.0 st)

-- each was answered what the rules answer
abbrev pub Answered : List Turn → State → Type 0
Answered [] st = Unit {0}
Answered (t ∷ ts) st = Answers (contract t.0) st (answer_c t.0 st) t.1 × Answered ts (next_c t.0 st)

pub record Follows (ts : List Turn) (st : State) (s : List ℕ) : Type 0 where
  pub passes : tested s ≡ true
  pub holds : view s ≡ run_c ts st
  pub answers : Answered ts st

-- ---- the bytes that a host holds

-- they were set up, which was answered 0, and then any calls were made on them
pub data Held : List ℕ → Type 0 where
  held : (l block eds : List ℕ) (seed : ℕ) {ts : List Turn} {s s'' : List ℕ} → (0, s) ≡ setup_call l block eds seed → Ran ts s s'' → Held s''

-- a state that the rules reach from a fresh setup
abbrev pub Reached : State → Type 0
Reached st = (u : Setup) × (seed : ℕ) × (cs : List Call) × (st ≡ run cs (fresh u seed))
