-- The state test on what was set up, computed, and what a row's two made-up bytes say: rules 16.3, 16.4, 16.7 and 16.8.
use mathlib.Core.Bool.{true, false}
use mathlib.Core.List.{List, [], ◌∷◌, ◌++◌, map}
use mathlib.Core.Path.{◌≡◌, refl}
use Prim.Native.Nat.{ℕ}
use lib.ListN.{replicate}
use Rattle.base_cells.specs.Numbers.{le_bytes, le, le_of}
use Rattle.base_cells.specs.Back.{all}
use Rattle.state_rules.specs.Listed.{listed}
use Rattle.state_rules.specs.Setups.{shape_in, shapes_of, good_setup, good_shapes}
use Rattle.rules.specs.declared.Kind.TheVariants.{Owner, InputOnly, ListenOnly}
use Rattle.rules.specs.declared.AssemblyKind.TheVariants.{Input, Output, Config}
use Rattle.state_rules.specs.Rows.{kind_in, output_in}

-- a setup's region by what is tested of it: the number of assemblies, the transfer limit, the lengths of product name and EDS name, the
-- EDS mark; 16.8: all else is 255, but the greatest RPI is 0, below the least
abbrev pub region : ℕ → ℕ → ℕ → ℕ → ℕ → List ℕ
region assemblies limit name eds_name mark =
    (assemblies ∷ limit ∷ name ∷ eds_name ∷ le_bytes 4 mark) ++ replicate 24 255 ++ replicate 4 0 ++ replicate 156 255

-- 16.3: the most and the least that pass; 17 assemblies, a limit of 0, names of 33 bytes, an EDS of 65,536
pub setups_tested : map good_setup (
    region 16 1 32 32 65536 ∷ region 0 255 0 0 0 ∷
    region 17 1 32 32 65536 ∷ region 16 0 32 32 65536 ∷ region 16 1 33 32 65536 ∷ region 16 1 32 33 65536 ∷ region 16 1 32 32 65537 ∷ [])
    ≡ true ∷ true ∷ false ∷ false ∷ false ∷ false ∷ false ∷ []
unfolding good_setup all le_bytes le le_of
setups_tested = refl

-- a setup's region with so many assemblies in use, by the sizes at the first place, the second and the last
abbrev pub in_use : ℕ → ℕ → ℕ → ℕ → List ℕ
in_use n first second last = (n ∷ replicate 141 255) ++ le_bytes 2 first ++ le_bytes 2 second ++ replicate 26 0 ++ le_bytes 2 last ++ replicate 18 255

-- 16.4: 512 bytes, not 513, at each of the 16 places, whether it is in use or not
pub sizes_tested : map good_shapes (
    in_use 2 0 512 512 ∷ in_use 0 512 512 512 ∷
    in_use 2 0 513 0 ∷ in_use 1 0 513 0 ∷ in_use 0 513 0 0 ∷ in_use 15 0 0 513 ∷ in_use 16 0 0 513 ∷ [])
    ≡ true ∷ true ∷ false ∷ false ∷ false ∷ false ∷ false ∷ []
unfolding good_shapes shape_in listed all le_bytes le le_of
sizes_tested = refl

-- three columns: 16 instances, 16 sizes, 16 kinds; those of the second assembly, and of the last
abbrev pub columns : List ℕ
columns =
    (2 ∷ replicate 109 0) ++ (1 ∷ 0 ∷ 2 ∷ 1 ∷ replicate 26 0) ++ (3 ∷ 0 ∷ []) ++ (4 ∷ 0 ∷ 5 ∷ 1 ∷ replicate 26 0) ++ (6 ∷ 0 ∷ [])
    ++ (1 ∷ 2 ∷ replicate 13 0) ++ (3 ∷ 0 ∷ 0 ∷ [])

pub columns_read : (shapes_of columns ≡ record { instance = 1; kind = Input; size = 4 } ∷ record { instance = 258; kind = Output; size = 261 } ∷ [])
    × (shape_in columns 15 ≡ record { instance = 3; kind = Config; size = 6 })
unfolding shape_in listed le le_of
columns_read = (refl, refl)

-- 16.7: a role is an owner's output up to 253, input-only 254, listen-only 255
pub roles_told : map kind_in (0 ∷ 253 ∷ 254 ∷ 255 ∷ []) ≡ Owner ∷ Owner ∷ InputOnly ∷ ListenOnly ∷ []
roles_told = refl

pub outputs_told : map output_in (0 ∷ 253 ∷ 254 ∷ 255 ∷ []) ≡ 0 ∷ 253 ∷ 0 ∷ 0 ∷ []
outputs_told = refl
