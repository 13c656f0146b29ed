-- Setup: its sizes (No. 2), and the fresh state. Rules 1.1 to 1.12.
use Rattle.std.specs.Prelude.{List, [], ◌∷◌, map, Bool, true, false, cond, not, ◌&&◌, ℕ, ◌+◌, ◌%◌, eqb, leb, length, replicate, Option}
use Rattle.rules.specs.Lists.{any, maybe}
use Rattle.rules.specs.State.{Shape, Setup, Content, State}
use Rattle.rules.specs.Answers.{Answer, Done, Refused, BadSetup}

abbrev pub within : ℕ → ℕ → ℕ → Bool
within low high n = leb low n && leb n high

-- 1.1: instances 1 to 65,535, 0 to 512 bytes each
abbrev pub shape_ok : Shape → Bool
shape_ok a = within 1 65535 a.instance && leb a.size 512

-- 1.2: distinct
abbrev pub distinct : List ℕ → Bool
distinct [] = true
distinct (n ∷ ns) = not (any (eqb n) ns) && distinct ns

-- 1.1: at most 16 assemblies
abbrev pub assemblies_ok : List Shape → Bool
assemblies_ok l = leb (length l) 16 && not (any (λ a. not (shape_ok a)) l) && distinct (map (λ a. a.instance) l)

-- 1.5: names up to 32 bytes
abbrev pub name_ok : List ℕ → Bool
name_ok name = leb (length name) 32

-- 1.6: EDS up to 65,535 bytes, absent or present
abbrev pub eds_ok : Option (List ℕ) → Bool
eds_ok eds = maybe true (λ bytes. leb (length bytes) 65535) eds

-- 1.5: transfer limit 1 to 255
abbrev pub transfer_ok : ℕ → Bool
transfer_ok limit = within 1 255 limit

-- 1.8: and nothing else, neither the range of RPIs nor the heartbeats
unfoldable pub setup_ok : Setup → Bool
setup_ok u =
    assemblies_ok u.assemblies && name_ok u.identity.name && name_ok u.eds_name && eds_ok u.eds && transfer_ok u.transfer_limit

-- 1.10: an assembly begins with zeros, idle; the adapter knows nobody and has nothing to tell
abbrev pub blank : Shape → Content
blank a = record { bytes = replicate a.size 0; run = false; notified = false }

-- 1.11: ids start at the seed with bit 0 set
abbrev pub first_id : ℕ → ℕ
first_id seed = cond (eqb (seed % 2) 0) (seed + 1) seed

unfoldable pub fresh : Setup → ℕ → State
fresh u seed =
    record {
      setup = u;
      contents = map blank u.assemblies;
      table = [];
      events = record { gone = 0; waiting = [] };
      fault = false;
      next_id = first_id seed;
      counters = record { produced = 0; late = 0; max_late = 0 };
    }

-- SETUP (1.12): No. 2, or the fresh state
unfoldable pub setup_answer : Setup → Answer
setup_answer u = cond (setup_ok u) Done (Refused BadSetup)
