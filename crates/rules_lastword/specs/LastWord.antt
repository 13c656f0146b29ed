-- WHAT AN OUTPUT'S LAST WORD IS, told from the calls and their answers alone, and what it is that a lane obeys it. That every lane does
-- stands in proofs/LastWord.antt.
use Rattle.std.specs.Prelude.{◌≡◌, ℕ, ◌^◌, ◌<◌, replicate, Some}
use mathlib.Core.List.{List, ◌∷◌}
use Rattle.base_cells.specs.Records.{of_bool}
use Rattle.rules.specs.Lists.{any, is_some}
use Rattle.rules.specs.State.{Setup, shape_at, content_at, State, is_output}
use Rattle.rules.specs.Setup.{fresh}
use Rattle.rules.specs.Checks.{place_of}
use Rattle.rules.specs.Calls.{Call}
use Rattle.rules_faults.specs.RunBit.{owner_of}
use Rattle.rules_steps.specs.Steps.{log, history}
use Rattle.rules_lastword.specs.Words.{Word, word_of, no_word, in_run, holds, opens}

-- ---- one output: of instance number n, at place i of the setup's list
module _ (u : Setup) (n i : ℕ) (there : place_of is_output u n ≡ Some i) where
  module _ (seed : ℕ) (small : seed < 2 ^ 32) where
    -- what the calls and answers of a run tell: how many opens were accepted, and the output's word
    abbrev pub accepted : List Call → ℕ
    accepted cs = history opens (log cs (fresh u seed)) 0

    abbrev pub word : List Call → Word
    word cs = history (word_of u n (shape_at u i).size) (log cs (fresh u seed)) no_word

    -- THE PROMISE
    pub record Obeys (w : Word) (s : State) : Type 0 where
      pub live : is_some w.owner ≡ any (owner_of i) s.table
      pub run : (content_at s i).run ≡ in_run w
      pub bytes : (content_at s i).bytes ≡ holds (replicate (shape_at u i).size 0) w

    -- what the host reads of the output, where its lent output has room: 1 or 0 for run, then the data
    abbrev pub word_bytes : List Call → List ℕ
    word_bytes cs = of_bool (in_run (word cs)) ∷ holds (replicate (shape_at u i).size 0) (word cs)
