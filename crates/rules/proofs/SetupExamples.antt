-- Sizes and setup, computed: chapter 1 of the rules, each line with its rule.
use mathlib.Core.Path.{◌≡◌, refl, ap}
use mathlib.Core.List.{List, [], ◌∷◌, ◌++◌, map}
use Rattle.std.specs.Prelude.{Option, None, Some}
use mathlib.Core.Bool.{Bool, true, false}
use Prim.Native.Nat.{ℕ}
use lib.Dec.{leb}
use lib.ListN.{replicate, length-replicate}
use Rattle.wire_rules.specs.Examples.{Example, ◌is◌, Hold}
use Rattle.rules.specs.State.{Input, Output, Config, AssemblyKind, Shape, Setup}
use Rattle.rules.specs.Answers.{Done, Refused, BadSetup}
use Rattle.rules.specs.Checks.{rpi_ok}
use Rattle.rules.specs.Setup.{eds_ok, setup_ok, first_id, fresh, setup_answer}
use Rattle.rules.proofs.Examples.{setup}
use Rattle.rules.proofs.Small.{holding, counting}

-- a setup by what is tested of it: assemblies, names, EDS, transfer limit; its least RPI is above its greatest, and its heartbeats
-- are one number, that of an assembly too
abbrev pub sized : List Shape → List ℕ → List ℕ → Option (List ℕ) → ℕ → Setup
sized shapes name eds_name eds limit =
    record {
      identity = record { vendor = 1; device = 12; product = 3; major = 1; minor = 5; serial = 9; name = name };
      input_only = 7;
      listen_only = 7;
      rpi_min = 5001;
      rpi_max = 5000;
      late_limit = 0;
      transfer_limit = limit;
      mac = 0 ∷ 0 ∷ 0 ∷ 0 ∷ 0 ∷ 0 ∷ [];
      eds = eds;
      eds_name = eds_name;
      assemblies = shapes;
    }

abbrev pub shape : AssemblyKind → ℕ → ℕ → Shape
shape kind instance size = record { instance = instance; kind = kind; size = size }

-- whether assemblies are taken, all else being in order
abbrev pub takes : List Shape → Bool
takes shapes = setup_ok (sized shapes [] [] None 1)

abbrev pub inputs : List ℕ → List Shape
inputs instances = map (λ n. shape Input n 0) instances

abbrev pub fifteen : List ℕ
fifteen = 1 ∷ 2 ∷ 3 ∷ 4 ∷ 5 ∷ 6 ∷ 7 ∷ 8 ∷ 9 ∷ 10 ∷ 11 ∷ 12 ∷ 13 ∷ 14 ∷ 15 ∷ []

abbrev pub setups : List Example
setups =
    -- 1.1: 16 assemblies, not 17; 1.8: none at all is a setup, and no number but these is looked at
    (takes (inputs (fifteen ++ (16 ∷ []))) is true) ∷
    (takes (inputs (fifteen ++ (16 ∷ 17 ∷ []))) is false) ∷
    (takes [] is true) ∷
    -- 1.1: instances 1 to 65,535
    (takes (inputs (1 ∷ 65535 ∷ [])) is true) ∷
    (takes (inputs (0 ∷ [])) is false) ∷
    (takes (inputs (65536 ∷ [])) is false) ∷
    -- 1.2: distinct, whatever their kinds
    (takes (shape Input 7 0 ∷ shape Output 8 0 ∷ shape Config 7 0 ∷ []) is false) ∷
    -- 1.1: 0 to 512 bytes
    (takes (shape Input 1 0 ∷ shape Output 2 512 ∷ []) is true) ∷
    (takes (shape Input 1 0 ∷ shape Output 2 513 ∷ []) is false) ∷
    -- 1.5: a product name and an EDS name of 32 bytes, not 33
    (setup_ok (sized [] (replicate 32 255) (replicate 32 0) None 1) is true) ∷
    (setup_ok (sized [] (replicate 33 65) [] None 1) is false) ∷
    (setup_ok (sized [] [] (replicate 33 65) None 1) is false) ∷
    -- 1.6: an EDS may be absent or empty
    (setup_ok (sized [] [] [] None 1) is true) ∷
    (setup_ok (sized [] [] [] (Some []) 1) is true) ∷
    -- 1.5: a transfer limit of 1 to 255
    (setup_ok (sized [] [] [] None 0) is false) ∷
    (setup_ok (sized [] [] [] None 255) is true) ∷
    (setup_ok (sized [] [] [] None 256) is false) ∷
    -- 1.8: a least RPI above the greatest is a setup, and then no RPI is in the range
    (rpi_ok (sized [] [] [] None 1) 5000 is false) ∷
    (rpi_ok (sized [] [] [] None 1) 5001 is false) ∷
    -- 1.12: what is beyond is refused with No. 2
    (setup_answer setup is Done) ∷
    (setup_answer (sized [] [] [] None 0) is Refused BadSetup) ∷
    []

pub the_setups : Hold setups
unfolding setup_ok setup_answer
the_setups = (refl, (refl, (refl, (refl, (refl, (refl, (refl, (refl, (refl, (refl, (refl, (refl, (refl, (refl, (refl, (refl, (refl, (refl, (refl, (refl, (refl, tt)))))))))))))))))))))

-- 1.6: an EDS of n bytes is taken exactly where n is at most 65,535
pub eds_bound : (n : ℕ) → eds_ok (Some (replicate n 0)) ≡ leb n 65535
eds_bound n = ap (λ k. leb k 65535) (length-replicate n 0)

abbrev pub freshly : List Example
freshly =
    -- 1.10: a fresh adapter holds zeros, is idle, knows nobody, has nothing to tell, no fault and no count
    (fresh setup 4 is
    record {
      setup = setup;
      contents = holding (0 ∷ 0 ∷ []) false false ∷ holding (0 ∷ []) false false ∷ holding (0 ∷ 0 ∷ []) false false ∷ [];
      table = [];
      events = record { gone = 0; waiting = [] };
      fault = false;
      next_id = 5;
      counters = counting 0 0 0;
    }) ∷
    -- 1.11: ids start at the seed with bit 0 set
    (map first_id (0 ∷ 4 ∷ 5 ∷ 0xFFFFFFFE ∷ 0xFFFFFFFF ∷ []) is 1 ∷ 5 ∷ 5 ∷ 0xFFFFFFFF ∷ 0xFFFFFFFF ∷ []) ∷
    []

pub begins_fresh : Hold freshly
unfolding fresh
begins_fresh = (refl, (refl, tt))
