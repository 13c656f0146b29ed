-- WHAT IS HEARD of a connection, told from the calls and their answers alone. That heard means heard stands in proofs/Heard.antt.
use Rattle.std.specs.Prelude.{List, Bool, ℕ, ◌^◌, ◌<◌, Option, None}
use Rattle.rules.specs.Lists.{maybe}
use Rattle.rules.specs.State.{Setup, triad_is}
use Rattle.rules.specs.Setup.{fresh}
use Rattle.rules.specs.Calls.{Call}
use Rattle.rules_steps.specs.Names.{Triad, ForwardOpen}
use Rattle.rules_steps.specs.Steps.{log, history}
use Rattle.rules_lastword.specs.Words.{Contact, contact_of}

-- an open under a triad
abbrev pub asks_as : Triad → List ℕ → ForwardOpen → Bool
asks_as k request q = triad_is k q.triad

module _ (u : Setup) (seed : ℕ) (small : seed < 2 ^ 32) where
  -- what the calls and answers tell of the connection last opened under a triad
  abbrev pub contact : Triad → List Call → Option Contact
  contact k cs = history (contact_of (asks_as k)) (log cs (fresh u seed)) None

  -- when it was heard last
  abbrev pub heard_at : Triad → List Call → ℕ
  heard_at k cs = maybe 0 (λ m. m.at) (contact k cs)
