-- The Forward Open and Forward Close requests: what stands at which offset of the service data.
use Rattle.std.specs.Prelude.{ℕ, ◌+◌, ◌*◌, Bool, true, false, List, length, leb, Option, Some, None}
use Rattle.base_ids.specs.declared.Triad.{Triad}
use Rattle.base_cells.specs.Pick.{pick}
use Rattle.base_cells.specs.Numbers.{le}
use Rattle.wire_rules.specs.Params.{params_at}
use Rattle.wire_rules.specs.declared.Way.{Way}
use Rattle.wire_rules.specs.declared.Place.{Place}
use Rattle.wire_rules.specs.declared.ForwardOpen.{ForwardOpen}

-- 5.9: service data up to 65,536 bytes
abbrev pub limit : ℕ
limit = 65536

-- 5.3: connection serial, originator vendor, originator serial
unfoldable pub triad_at : List ℕ → ℕ → Triad
triad_at s at = record { serial = le 2 s at; vendor = le 2 s (at + 2); originator = le 4 s (at + 4) }

-- 5.5: one direction: its RPI, and its parameters behind that
unfoldable pub way_at : Bool → List ℕ → ℕ → Way
way_at large s at = record { rpi = le 4 s at; params = params_at large s (at + 4) }

-- 5.6: a path: its words from `at` on, their number in the byte at `count`
unfoldable pub place_at : List ℕ → ℕ → ℕ → Place
place_at s count at = record { start = at; len = 2 * le 1 s count }

-- 5.2 to 5.6: the fields of an open whose parameters are w bytes wide
unfoldable pub fields_of : Bool → List ℕ → ℕ → ForwardOpen
fields_of large s w =
    record {
      otid = record { 0 = le 4 s 2 };
      toid = record { 0 = le 4 s 6 };
      triad = triad_at s 10;
      multiplier = le 1 s 18;
      ot = way_at large s 22;
      to = way_at large s (26 + w);
      transport = le 1 s (30 + w + w);
      path = place_at s (31 + w + w) (32 + w + w);
    }

-- 5.7, 5.8: an open whose parameters are w bytes wide parses where its path is all there, whatever comes behind
unfoldable pub open_with : Bool → List ℕ → ℕ → Option ForwardOpen
open_with large s w = pick (leb (32 + w + w + 2 * le 1 s (31 + w + w)) (length s)) (Some (fields_of large s w)) None

-- 5.1: a large open has parameters of four bytes, a small one of two
unfoldable pub width_of : Bool → ℕ
width_of true = 4
width_of false = 2

-- the open that the service data is
unfoldable pub open_of : Bool → List ℕ → Option ForwardOpen
open_of large s = pick (leb (length s) limit) (open_with large s (width_of large)) None

-- 5.10, 5.11: the close that the service data is: the triad at 2, the path's words counted at 10, a reserved byte, and the path there
unfoldable pub close_of : List ℕ → Option Triad
close_of s = pick (leb (length s) limit) (pick (leb (12 + 2 * le 1 s 10) (length s)) (Some (triad_at s 2)) None) None
