-- What the decision asks of the setup's region, and of the table's with n rows in use.
use Rattle.std.specs.Prelude.{ℕ, ◌≤◌, true, List, ◌≡◌, length}
use Rattle.state_rules.specs.Setups.{good_shapes}
use Rattle.state_rules.specs.Places.{setup_size, table_size, assemblies_of}

pub record SetupRegion (r : List ℕ) : Type 0 where
  pub long : setup_size ≤ length r
  pub few : assemblies_of r ≤ 16
  pub shapes : good_shapes r ≡ true

pub record Regions (r t : List ℕ) (n : ℕ) : Type 0 where
  pub setup : SetupRegion r
  pub long : table_size ≤ length t
  pub few : n ≤ 32
