-- What the setup region and the EDS say. No call but setup writes them, so their bytes are read and never written back.
use Rattle.std.specs.Prelude.{ℕ, ◌+◌, ◌-◌, ◌*◌, Bool, cond, List, [], ◌∷◌, eqb, leb, ltb, take, drop, Option, Some, None}
use Rattle.base_cells.specs.Numbers.{le}
use Rattle.base_cells.specs.Back.{all}
use Rattle.rules.specs.declared.AssemblyKind.{AssemblyKind}
use Rattle.rules.specs.declared.AssemblyKind.TheVariants.{Input, Output, Config}
use Rattle.rules.specs.State.{Identity, Shape, Setup}
use Rattle.state_rules.specs.Places.{setup_in, eds_in, instances_at, sizes_at, kinds_at, assemblies_of}
use Rattle.state_rules.specs.Listed.{listed}

-- a kind: 2 is an output, 3 a configuration, any other number an input
abbrev pub kind_named : ℕ → AssemblyKind
kind_named n = cond (eqb n 2) Output (cond (eqb n 3) Config Input)

-- the shape at a place of a setup region, of which there are 16: its instance, its kind and its size, each in its column
unfoldable pub shape_in : List ℕ → ℕ → Shape
shape_in r i = record { instance = le 2 r (instances_at + i * 2); kind = kind_named (le 1 r (kinds_at + i)); size = le 2 r (sizes_at + i * 2) }

-- all that there are, in their order
abbrev pub shapes_of : List ℕ → List Shape
shapes_of r = listed (shape_in r) (assemblies_of r)

-- vendor 2 at 8, device type 2 at 10, product code 2 at 12, major 1 at 14, minor 1 at 15, serial 4 at 16, name at 46, its length 1 at 2
abbrev pub identity_of : List ℕ → Identity
identity_of r =
    record {
      vendor = le 2 r 8;
      device = le 2 r 10;
      product = le 2 r 12;
      major = le 1 r 14;
      minor = le 1 r 15;
      serial = le 4 r 16;
      name = take (le 1 r 2) (drop 46 r);
    }

-- the EDS mark is 0 for no EDS, else its length and one
abbrev pub eds_of : ℕ → List ℕ → Option (List ℕ)
eds_of mark e = cond (eqb mark 0) None (Some (take (mark - 1) e))

-- number of assemblies 1 at 0, transfer limit 1 at 1, EDS name's length 1 at 3, EDS mark 4 at 4, input-only heartbeat 4 at 20,
-- listen-only 4 at 24, least RPI 4 at 28, greatest 4 at 32, late limit 4 at 36, MAC 6 at 40, EDS name at 78
abbrev pub setup_with : List Shape → List ℕ → List ℕ → Setup
setup_with shapes r e =
    record {
      identity = identity_of r;
      input_only = le 4 r 20;
      listen_only = le 4 r 24;
      rpi_min = le 4 r 28;
      rpi_max = le 4 r 32;
      late_limit = le 4 r 36;
      transfer_limit = le 1 r 1;
      mac = take 6 (drop 40 r);
      eds = eds_of (le 4 r 4) e;
      eds_name = take (le 1 r 3) (drop 78 r);
      assemblies = shapes;
    }

abbrev pub setup_from : List ℕ → List ℕ → Setup
setup_from r e = setup_with (shapes_of r) r e

unfoldable pub setup_of : List ℕ → Setup
setup_of l = setup_from (setup_in l) (eds_in l)

-- what the state test asks of it: at most 16 assemblies, a transfer limit of at least 1, names of at most 32 bytes, an EDS of at
-- most 65,535 bytes; and at none of the 16 places, in use or not, a size of more than 512 bytes
abbrev pub tests_setup : List ℕ → List Bool
tests_setup r = leb (assemblies_of r) 16 ∷ ltb 0 (le 1 r 1) ∷ leb (le 1 r 2) 32 ∷ leb (le 1 r 3) 32 ∷ leb (le 4 r 4) 65536 ∷ []

unfoldable pub good_setup : List ℕ → Bool
good_setup r = all (tests_setup r)

abbrev pub tests_shapes : List ℕ → List Bool
tests_shapes r = listed (λ i. leb (shape_in r i).size 512) 16

unfoldable pub good_shapes : List ℕ → Bool
good_shapes r = all (tests_shapes r)
