-- Identity's attributes as code has them: from the setup's region, and a status computed apart.
use Rattle.std.specs.Prelude.{ℕ, ◌≤◌, true, List, [], ◌∷◌, ◌≡◌}
use Rattle.std.proofs.Common.{ap}
use Rattle.base_cells.specs.Numbers.{le, le_bytes}
use Rattle.rules.specs.State.{Identity}
use Rattle.rules.specs.Attributes.{Attributes, short_string}
use Rattle.rules.specs.Objects.{identity_status, identity_attributes}
use Rattle.state_rules.specs.Places.{setup_in}
use Rattle.state_rules.specs.Setups.{identity_of, setup_of}
use Rattle.state_rules.specs.Image.{view, tested}
use Rattle.state_image.specs.Fits.{is_sound, short_name}

abbrev pub identity_table : Identity → ℕ → Attributes
identity_table us status =
    (1, le_bytes 2 us.vendor) ∷
    (2, le_bytes 2 us.device) ∷
    (3, le_bytes 2 us.product) ∷
    (4, us.major ∷ us.minor ∷ []) ∷
    (5, le_bytes 2 status) ∷
    (6, le_bytes 4 us.serial) ∷
    (7, short_string us.name) ∷
    (8, 3 ∷ []) ∷
    []

pub identity_table_lem : (s : List ℕ) (status : ℕ) → status ≡ identity_status (view s) → identity_table (identity_of (setup_in s)) status ≡ identity_attributes (view s)
unfolding identity_attributes view setup_of
identity_table_lem s status e = ap (identity_table (identity_of (setup_in s))) e

-- the region that a tested state's identity is read from
pub name_ready : (s : List ℕ) → tested s ≡ true → le 1 (setup_in s) 2 ≤ 32
name_ready s t = short_name (setup_in s) (is_sound s t)
