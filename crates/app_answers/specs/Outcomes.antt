-- What the application's calls may take for granted of the lent state.
use Rattle.std.specs.Prelude.{ℕ, true, List, ◌≡◌}
use Rattle.state_rules.specs.Image.{tested}
use Rattle.state_image.specs.Holds.{Ready, Slotted}

-- the lent state passed the state test: with the bounds that this gives
pub record Passed (s : List ℕ) : Type 0 where
  pub test : tested s ≡ true
  pub ready : Ready s
  pub slotted : Slotted s
