-- What the laws of clearing are told in: the state and the word before a call, and who was heard. The laws stand in proofs/Clearing.antt.
use Rattle.std.specs.Prelude.{◌≡◌, List, ℕ, ◌+◌, ◌^◌, ◌≤◌, ◌<◌, Some}
use Rattle.std.proofs.Math.Bool.{true}
use Rattle.rules.specs.Lists.{is_some}
use Rattle.rules.specs.State.{Setup, State, is_output}
use Rattle.rules.specs.Setup.{fresh}
use Rattle.rules.specs.Checks.{place_of}
use Rattle.rules.specs.Calls.{Call, run}
use Rattle.rules_lastword.specs.Words.{Contact, Word, early}
use Rattle.rules_lastword.specs.LastWord.{accepted, word}

-- ---- after one call
module _ (u : Setup) (n i : ℕ) (there : place_of is_output u n ≡ Some i) (seed : ℕ) (small : seed < 2 ^ 32) (cs : List Call) (few : early (accepted u n i there seed small cs) ≡ true) where
  abbrev pub before : State
  before = run cs (fresh u seed)

  abbrev pub told : Word
  told = word u n i there seed small cs

-- ---- WHAT IS IN RUN WAS HEARD
pub record HeardLately (t : ℕ) (w : Word) : Type 0 where
  pub who : Contact
  pub owner : w.owner ≡ Some who
  pub recorded : is_some who.last ≡ true
  pub lately : t ≤ who.at + who.timeout

-- an owner whose frame was recorded
pub record Recorded (w : Word) : Type 0 where
  pub who : Contact
  pub owner : w.owner ≡ Some who
  pub recorded : is_some who.last ≡ true
