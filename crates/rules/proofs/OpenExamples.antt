-- An open, check by check: what passes just so, and what just does not. Examples.antt has a refusal of each check and the order of any two.
use Rattle.std.specs.Prelude.{Some, None}
use mathlib.Core.Path.{◌≡◌, refl}
use mathlib.Core.List.{List, [], ◌∷◌, ◌++◌, map}
use mathlib.Core.Bool.{true, false}
use lib.ListN.{set, replicate}
use Prim.Native.Nat.{ℕ}
use Rattle.base_cells.specs.Numbers.{le_bytes}
use Rattle.wire_rules.specs.declared.NetType.TheVariants.{Null, Reserved}
use Rattle.rules.specs.State
use Rattle.rules.specs.State.{State, Conn, with_table}
use Rattle.rules.specs.Answers
use Rattle.rules.specs.Answers.{Failed}
use Rattle.rules.specs.Setup.{fresh}
use Rattle.rules.specs.Calls.{run}
use Rattle.rules.proofs.Examples.{ask, anyone}
use Rattle.rules.proofs.Plant.{plant_of, plant, path, along, having, owner, reader, listener, answer, accepted, opening}
use Rattle.rules.proofs.Computing.{openings}

-- 6.2: a port segment is barred as an attribute segment is, wherever it stands
pub no_port : (answer (along (0x01 ∷ 5 ∷ path 150 101)) plant ≡ Failed Answers.PathBarred) ×
    (answer (along (path 150 101 ++ (0x30 ∷ 1 ∷ []))) plant ≡ Failed Answers.PathBarred)
unfolding openings
no_port = (refl, refl)

-- a key of ours, but for its revision
abbrev pub revised : ℕ → ℕ → List ℕ
revised major minor = 0x34 ∷ 4 ∷ le_bytes 2 1 ++ le_bytes 2 12 ++ le_bytes 2 3 ++ (major ∷ minor ∷ [])

-- 6.3b: ours is 1.5; a minor revision of 0, and ours, need no bit 7; of two keys the last counts
pub revisions : (accepted (along (revised 1 0 ++ path 150 101)) plant ≡ true) ×
    (accepted (along (revised 1 5 ++ path 150 101)) plant ≡ true) ×
    (accepted (along (revised 0 99 ++ path 150 101)) plant ≡ true) ×
    (answer (along (revised 0x82 1 ++ path 150 101)) plant ≡ Failed (Answers.KeyRevision 0x82 1 1 5)) ×
    (accepted (along (revised 2 0 ++ revised 1 0 ++ path 150 101)) plant ≡ true) ×
    (answer (along (revised 1 0 ++ revised 2 0 ++ path 150 101)) plant ≡ Failed (Answers.KeyRevision 2 0 1 5))
unfolding openings
revisions = (refl, refl, refl, refl, refl, refl)

-- 6.4: a path without a class, of two classes the last, four points, instances for points
pub class_and_points : (answer (along (0x2C ∷ 150 ∷ 0x2C ∷ 101 ∷ [])) plant ≡ Failed (Answers.ClassNotFour None)) ×
    (accepted (along (0x20 ∷ 6 ∷ path 150 101)) plant ≡ true) ×
    (answer (along (path 150 101 ++ (0x20 ∷ 6 ∷ []))) plant ≡ Failed (Answers.ClassNotFour (Some 6))) ×
    (answer (along (0x20 ∷ 4 ∷ 0x24 ∷ 5 ∷ 0x2C ∷ 150 ∷ 0x2C ∷ 101 ∷ 0x2C ∷ 101 ∷ [])) plant ≡ Failed (Answers.NumberCount 4)) ×
    (accepted (along (0x20 ∷ 4 ∷ 0x24 ∷ 150 ∷ 0x24 ∷ 101 ∷ [])) plant ≡ true)
unfolding openings
class_and_points = (refl, refl, refl, refl, refl)

-- a number that is both heartbeats and an output
abbrev pub shared : State
shared = fresh (plant_of 150 150 1000 100000) 4

-- 6.4b: such a number is the input-only heartbeat: the open's size is that of a heartbeat, and no stream is wanted
pub heartbeats_first : (answer (along (path 150 101)) shared ≡ Failed (Answers.HeartbeatSize 8)) ×
    (accepted (ask 1 0 0 10000 0x4000 10000 0x2003 (path 150 101)) shared ≡ true)
unfolding openings
heartbeats_first = (refl, refl)

-- an instance, the points 150 and 101, data segments
abbrev pub with_data_lem : ℕ → List ℕ → List ℕ
with_data_lem instance segments = along (0x20 ∷ 4 ∷ 0x24 ∷ instance ∷ 0x2C ∷ 150 ∷ 0x2C ∷ 101 ∷ segments)

-- 6.5, 6.5a, 6.5b: data with two points, for an assembly of another kind, shorter than the assembly; a number without data may name
-- nothing; of two data segments the last counts, an empty one too
pub configuration : (answer (along (path 150 101 ++ (0x80 ∷ 1 ∷ 1 ∷ 2 ∷ []))) plant ≡ Failed (Answers.NoConfig 2)) ×
    (answer (with_data_lem 151 (0x80 ∷ 1 ∷ 1 ∷ 2 ∷ [])) plant ≡ Failed (Answers.NoConfig 2)) ×
    (answer (with_data_lem 6 (0x80 ∷ 1 ∷ 1 ∷ 2 ∷ [])) plant ≡ Failed (Answers.ConfigLength 2 4)) ×
    (accepted (with_data_lem 9 []) plant ≡ true) ×
    (accepted (with_data_lem 5 (0x80 ∷ 2 ∷ 1 ∷ 2 ∷ 3 ∷ 4 ∷ 0x80 ∷ 1 ∷ 1 ∷ 2 ∷ [])) plant ≡ true) ×
    (accepted (with_data_lem 9 (0x80 ∷ 1 ∷ 1 ∷ 2 ∷ 0x80 ∷ 0 ∷ [])) plant ≡ true)
unfolding openings
configuration = (refl, refl, refl, refl, refl, refl)

-- 6.6: both ends of the range pass, for either direction; a range whose least is above its greatest holds nothing
pub range : (accepted (having 1000 0x4008 1000 0x2003) plant ≡ true) ×
    (accepted (having 100000 0x4008 100000 0x2003) plant ≡ true) ×
    (answer (having 100001 0x4008 10000 0x2003) plant ≡ Failed (Answers.OtRpi 100001 1000 100000)) ×
    (answer (having 10000 0x4008 999 0x2003) plant ≡ Failed (Answers.ToRpi 999 1000 100000)) ×
    (answer (having 10000 0x4008 10000 0x2003) (fresh (plant_of 198 199 20000 1000) 4) ≡ Failed (Answers.OtRpi 10000 20000 1000))
unfolding openings
range = (refl, refl, refl, refl, refl)

-- 6.7: null and reserved pass in neither direction
pub types : (answer (having 10000 0x0008 10000 0x2003) plant ≡ Failed (Answers.OtType Null)) ×
    (answer (having 10000 0x6008 10000 0x2003) plant ≡ Failed (Answers.OtType Reserved)) ×
    (answer (having 10000 0x4008 10000 0x6003) plant ≡ Failed (Answers.ToType Reserved)) ×
    (accepted (having 10000 0x4008 10000 0x4003) plant ≡ true)
unfolding openings
types = (refl, refl, refl, refl)

-- a heartbeat of an input-only open
abbrev pub beating : ℕ → List ℕ
beating params = ask 1 0 0 10000 params 10000 0x2003 (path 198 101)

-- 6.8, 6.8a, 6.9: less passes only if variable, more never; a heartbeat has 0, 2 or 6 bytes, variable or not
pub sizes : (answer (having 10000 0x4007 10000 0x2003) plant ≡ Failed (Answers.OwnerSize 7 8)) ×
    (answer (having 10000 0x4209 10000 0x2003) plant ≡ Failed (Answers.OwnerSize 9 8)) ×
    (accepted (having 10000 0x4208 10000 0x2201) plant ≡ true) ×
    (answer (having 10000 0x4008 10000 0x2204) plant ≡ Failed (Answers.InputSize 4 3)) ×
    (accepted (beating 0x4000) plant ≡ true) ×
    (accepted (beating 0x4002) plant ≡ true) ×
    (accepted (beating 0x4006) plant ≡ true) ×
    (answer (beating 0x4004) plant ≡ Failed (Answers.HeartbeatSize 4)) ×
    (answer (beating 0x4204) plant ≡ Failed (Answers.HeartbeatSize 4)) ×
    (answer (beating 0x4008) plant ≡ Failed (Answers.HeartbeatSize 8))
unfolding openings
sizes = (refl, refl, refl, refl, refl, refl, refl, refl, refl, refl)

-- 6.10: another serial number, vendor or originator is another triad
pub triads : (answer (reader 1 101 10000) (run (opening (reader 1 101 10000) ∷ []) plant) ≡ Failed Answers.TriadInUse) ×
    (map (λ place. accepted (set (reader 1 101 10000) place 9) (run (opening (reader 1 101 10000) ∷ []) plant)) (10 ∷ 12 ∷ 14 ∷ []) ≡ true ∷ true ∷ true ∷ [])
unfolding openings
triads = (refl, refl)

-- 6.11: an output is owned by an owner of it, not by one of another output, nor by a reader
pub ownership : (accepted (owner 2 101 10000) (run (opening (ask 1 0 0 10000 0x4008 10000 0x2003 (path 151 101)) ∷ []) plant) ≡ true) ×
    (accepted (owner 2 101 10000) (run (opening (reader 1 101 10000) ∷ []) plant) ≡ true) ×
    (answer (owner 2 102 10000) (run (opening (owner 1 101 10000) ∷ []) plant) ≡ Failed (Answers.Owned 150)) ×
    (accepted (reader 2 101 10000) (run (opening (owner 1 101 10000) ∷ []) plant) ≡ true)
unfolding openings
ownership = (refl, refl, refl, refl)

-- a table of so many connections of one reader, behind those of a run
abbrev pub someone : Conn
someone =
    record {
      fixed = anyone;
      heard = record { until = 0; any = false; sequence = 0; anycip = false; cip = 0 };
      sent = record { sequence = 0; cip = 0; due = None };
    }

abbrev pub crowd : ℕ → State → State
crowd n st = with_table (st.table ++ replicate n someone) st

-- 6.13, 6.14: of several checks that do not hold in a full table, that it is full is said last
pub full_is_last : (answer (reader 2 101 10000) (crowd 32 plant) ≡ Failed Answers.Full) ×
    (accepted (reader 2 101 10000) (crowd 31 plant) ≡ true) ×
    (answer (reader 1 101 10000) (crowd 32 plant) ≡ Failed Answers.TriadInUse) ×
    (answer (owner 2 101 10000) (crowd 31 (run (opening (owner 3 101 10000) ∷ []) plant)) ≡ Failed (Answers.Owned 150)) ×
    (answer (listener 2 102 10000) (crowd 32 plant) ≡ Failed Answers.NoStream)
unfolding openings
full_is_last = (refl, refl, refl, refl, refl)
