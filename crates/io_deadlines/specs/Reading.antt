-- A call that only reads a held state: its answer as a number, and what it writes at the output's start.
use Rattle.std.specs.Prelude.{◌≡◌, ℕ, List, length}
use Rattle.std.proofs.lemmas.List.Edits.{sets}
use Rattle.rules.specs.State.{State}
use Rattle.rules.specs.Answers.{Answer, answer_number, answer_bytes}
use Rattle.state_image.specs.Holds.{Holds}

pub record Answered (a : Answer) (out : List ℕ) (r : ℕ) (out' : List ℕ) : Type 0 where
  pub number : r ≡ answer_number a
  pub bytes : out' ≡ sets out 0 (answer_bytes a)

abbrev pub Answers : (ℕ → State → Answer) → List ℕ → List ℕ → ℕ → List ℕ → Type 0
Answers call s out r out' = (st : State) (l : List ℕ) → Holds s st l → Answered (call (length out) st) out r out'
