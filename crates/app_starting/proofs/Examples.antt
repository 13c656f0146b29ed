-- What setup accepts of its block and the EDS's bytes, and the columns that it makes of a block, computed: rules 1.14 and 16.4.
use mathlib.Core.Bool.{true, false}
use mathlib.Core.List.{List, [], ◌∷◌, ◌++◌, map}
use mathlib.Core.Path.{◌≡◌, refl}
use Prim.Native.Nat.{ℕ}
use lib.ListN.{replicate, take, drop}
use Rattle.base_cells.specs.Numbers.{le_bytes, le, le_of, put}
use Rattle.base_cells.specs.Back.{all}
use Rattle.base_tables.specs.Tables.{rows}
use Rattle.rules.specs.Setup.{setup_ok}
use Rattle.app_starting.specs.Block.{shapes_at, dec_shape, marked_block, setup_given, kind_given, accepted, zeros, spread, region_of}

-- a block of no names, a transfer limit of 1 and one assembly of 2 bytes, by its EDS mark and the assembly's kind
abbrev pub block : ℕ → ℕ → List ℕ
block mark kind = (1 ∷ 1 ∷ 0 ∷ 0 ∷ le_bytes 4 mark) ++ replicate 102 0 ++ (1 ∷ 0 ∷ 2 ∷ 0 ∷ kind ∷ []) ++ replicate 77 0

-- kinds 1 to 3; one byte of EDS with a mark of 0, 1, 2; 191, 192 and 193 bytes
pub blocks : (map (λ kind. accepted (block 0 kind) []) (0 ∷ 1 ∷ 2 ∷ 3 ∷ 4 ∷ []) ≡ false ∷ true ∷ true ∷ true ∷ false ∷ [])
    × (map (λ mark. accepted (block mark 1) (7 ∷ [])) (0 ∷ 1 ∷ 2 ∷ []) ≡ false ∷ true ∷ false ∷ [])
    × (map (λ b. accepted b []) (take 191 (block 0 1) ∷ block 0 1 ∷ (block 0 1 ++ (0 ∷ [])) ∷ []) ≡ false ∷ true ∷ false ∷ [])
unfolding accepted kind_given setup_given marked_block setup_ok dec_shape rows all put le_bytes le le_of
blocks = (refl, refl, refl)

-- two assemblies, and 255 behind them: each number in its column, and zeros at the other places
abbrev pub two : List ℕ
two = (2 ∷ 1 ∷ replicate 108 0) ++ (1 ∷ 2 ∷ 3 ∷ 0 ∷ 1 ∷ 4 ∷ 5 ∷ 6 ∷ 0 ∷ 2 ∷ []) ++ replicate 72 255

pub columns_made : drop shapes_at (region_of two []) ≡
    (1 ∷ 2 ∷ 4 ∷ 5 ∷ replicate 28 0) ++ (3 ∷ 0 ∷ 6 ∷ 0 ∷ replicate 28 0) ++ (1 ∷ 2 ∷ replicate 16 0)
unfolding region_of spread marked_block zeros put le_bytes le le_of
columns_made = refl
