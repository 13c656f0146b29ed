-- Setup: what a block and an EDS say, when that is accepted, and the state's bytes that are left. docs/INTERFACE.md has the block.
use Rattle.std.specs.Prelude.{ℕ, zero, suc, ◌+◌, ◌-◌, ◌*◌, Bool, cond, not, ◌||◌, List, [], ◌∷◌, ◌++◌, eqb, leb, length, take, drop, replicate}
use Rattle.base_cells.specs.Numbers.{le, put}
use Rattle.base_cells.specs.Records.{enc_fields}
use Rattle.base_cells.specs.Back.{all}
use Rattle.base_cells.specs.Pick.{pick}
use Rattle.base_tables.specs.Tables.{rows}
use Rattle.base_tables.specs.Regions.{joined}
use Rattle.rules.specs.State.{Shape, Setup}
use Rattle.rules.specs.Answers.{Done, Refused, answer_number}
use Rattle.rules.specs.Setup.{within, setup_ok, first_id}
use Rattle.state_rules.specs.Places.{w_head, instances_at, sizes_at, kinds_at, table_size, events_size, data_size, state_size, assemblies_of}
use Rattle.state_rules.specs.Setups.{kind_named, setup_with}
use Rattle.rules.specs.declared.No.TheVariants.{BadSetup}

-- ---- the block's assemblies: from 110 on 5 bytes each, instance 2 at 0, size 2 at 2, kind 1 at 4

abbrev pub shapes_at : ℕ
shapes_at = 110

abbrev pub shape_size : ℕ
shape_size = 5

unfoldable pub dec_shape : List ℕ → Shape
dec_shape b = record { instance = le 2 b 0; kind = kind_named (le 1 b 4); size = le 2 b 2 }

abbrev pub given_in : List ℕ → ℕ → Shape
given_in block i = dec_shape (take shape_size (drop (i * shape_size) (drop shapes_at block)))

-- all that there are, in their order
abbrev pub shapes_given : List ℕ → List Shape
shapes_given block = rows shape_size dec_shape (assemblies_of block) (drop shapes_at block)

-- ---- what was given

-- the mark of the EDS in the state: 0 for no EDS, else its length and one
abbrev pub eds_mark : ℕ → List ℕ → ℕ
eds_mark flag eds = cond (eqb flag 0) 0 (length eds + 1)

-- the block with that mark in place of the flag
unfoldable pub marked_block : List ℕ → List ℕ → List ℕ
marked_block block eds = put 4 block 4 (eds_mark (le 4 block 4) eds)

unfoldable pub setup_given : List ℕ → List ℕ → Setup
setup_given block eds = setup_with (shapes_given block) (marked_block block eds) eds

-- kinds are 1 input, 2 output, 3 configuration
unfoldable pub kind_given : List ℕ → Bool
kind_given b = within 1 3 (le 1 b 4)

-- a block of 192 bytes; a flag of 0 or 1; no EDS bytes where there is no EDS; kinds that there are; and the rules' sizes
abbrev pub tests_block : List ℕ → List ℕ → List Bool
tests_block block eds =
    eqb (length block) 192
    ∷ leb (le 4 block 4) 1
    ∷ (not (eqb (le 4 block 4) 0) || eqb (length eds) 0)
    ∷ all (rows 5 kind_given (assemblies_of block) (drop shapes_at block))
    ∷ setup_ok (setup_given block eds)
    ∷ []

unfoldable pub accepted : List ℕ → List ℕ → Bool
accepted block eds = all (tests_block block eds)

unfoldable pub zeros : ℕ → List ℕ
zeros n = replicate n 0

-- ---- the setup's region of the state

-- one of the block's assemblies, its three numbers each in its column
abbrev pub in_columns : List ℕ → ℕ → List ℕ → List ℕ
in_columns block i r =
    put 1 (put 2 (put 2 r (instances_at + i * 2) (le 2 block (i * 5 + 110))) (sizes_at + i * 2) (le 2 block (i * 5 + 112))) (kinds_at + i) (le 1 block (i * 5 + 114))

-- the first n
unfoldable pub spread : List ℕ → ℕ → List ℕ → List ℕ
spread block zero r = r
spread block (suc n) r = in_columns block n (spread block n r)

-- the block up to its assemblies, with the mark; then the columns, zero at the places that are not in use, and two bytes more
unfoldable pub region_of : List ℕ → List ℕ → List ℕ
region_of block eds = spread block (assemblies_of block) (take shapes_at (marked_block block eds) ++ zeros 82)

-- the fresh state: what was set up, the next id, the EDS, and zeros
abbrev pub list_fresh : ℕ → List ℕ
list_fresh seed = 0 ∷ 0 ∷ 0 ∷ first_id seed ∷ 0 ∷ 0 ∷ []

abbrev pub regions_fresh : List ℕ → List ℕ → ℕ → List (List ℕ)
regions_fresh block eds seed =
    region_of block eds
    ∷ (enc_fields w_head (list_fresh seed) ++ zeros 14)
    ∷ zeros 16
    ∷ zeros table_size
    ∷ zeros events_size
    ∷ zeros data_size
    ∷ (eds ++ zeros (65536 - length eds))
    ∷ []

unfoldable pub started : List ℕ → List ℕ → ℕ → List ℕ
started block eds seed = joined (regions_fresh block eds seed)

-- SETUP on lent bytes: No. 1 for a state of another size, No. 2, or the fresh state
unfoldable pub setup_call : List ℕ → List ℕ → List ℕ → ℕ → ℕ × List ℕ
setup_call l block eds seed =
    pick (eqb (length l) state_size)
    (pick (accepted block eds) (answer_number Done, started block eds seed) (answer_number (Refused BadSetup), l))
    (1, l)
