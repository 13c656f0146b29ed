-- Opens and closes worked out byte by byte: every field has bytes of its own, so that none can stand for another.
use Rattle.std.specs.Prelude.{Option, Some, None}
use Rattle.wire_rules.specs.declared.ForwardOpen.{ForwardOpen}
use Prim.Native.Nat.{ℕ}
use mathlib.Core.Path.{◌≡◌, refl}
use mathlib.Core.Bool.{Bool, true, false}
use mathlib.Core.List.{List, [], ◌∷◌, ◌++◌, map}
use lib.ListN.{replicate}
use Rattle.base_cells.specs.Numbers.{le, le_of}
use Rattle.base_ids.specs.declared.Triad.{Triad}
use Rattle.wire_rules.specs.Params.{net_of, small_params, large_params, params_at}
use Rattle.wire_rules.specs.Opens.{triad_at, way_at, place_at, fields_of, open_with, width_of, open_of, close_of}
use Rattle.wire_rules.specs.declared.NetType.TheVariants.{Null, Multicast, PointToPoint, Reserved}
use Rattle.wire_rules.specs.declared.NetType.{NetType}
use Rattle.wire_rules.specs.declared.NetParams.{NetParams}

-- ---- parameters

abbrev params : ℕ → Bool → NetType → NetParams
params size variable net = record { size = size; variable = variable; net = net }

pub types : map net_of (0 ∷ 1 ∷ 2 ∷ 3 ∷ []) ≡ Null ∷ Multicast ∷ PointToPoint ∷ Reserved ∷ []
types = refl

-- every bit but those of the size, and all the bits of the size
pub small : map small_params (0x2A26 ∷ 0x41FF ∷ 0x9E00 ∷ []) ≡ params 38 true Multicast ∷ params 511 false PointToPoint ∷ params 0 true Null ∷ []
small = refl

pub large : map large_params (0x22000026 ∷ 0x4000FFFF ∷ 0x9FFF0000 ∷ []) ≡ params 38 true Multicast ∷ params 65535 false PointToPoint ∷ params 0 true Null ∷ []
large = refl

-- ---- opens

abbrev triad : Triad
triad = record { serial = 0x0A09; vendor = 0x0C0B; originator = 0x100F0E0D }

-- priority, ticks, O→T id, T→O id, the triad, multiplier, three reserved bytes, O→T RPI 10,000
abbrev front : List ℕ
front =
    0xA1 ∷ 0xA2 ∷ 0x01 ∷ 0x02 ∷ 0x03 ∷ 0x04 ∷ 0x05 ∷ 0x06 ∷ 0x07 ∷ 0x08 ∷ 0x09 ∷ 0x0A ∷ 0x0B ∷ 0x0C ∷ 0x0D ∷ 0x0E ∷ 0x0F ∷ 0x10
    ∷ 3 ∷ 0xA3 ∷ 0xA4 ∷ 0xA5 ∷ 0x10 ∷ 0x27 ∷ 0 ∷ 0 ∷ []

-- the open with that front; `at` is where its path stands
abbrev asked : NetParams → NetParams → ℕ → Option ForwardOpen
asked ot to at =
    Some
    (record {
      otid = record { 0 = 0x04030201 };
      toid = record { 0 = 0x08070605 };
      triad = triad;
      multiplier = 3;
      ot = record { rpi = 10000; params = ot };
      to = record { rpi = 20000; params = to };
      transport = 0x21;
      path = record { start = at; len = 2 };
    })

-- O→T parameters, T→O RPI 20,000, T→O parameters, transport, one word of path, the path, and a byte behind it
pub opens : (open_of false (front ++ (0x26 ∷ 0x2A ∷ 0x20 ∷ 0x4E ∷ 0 ∷ 0 ∷ 0x06 ∷ 0x40 ∷ 0x21 ∷ 1 ∷ 0xFF ∷ 0xFE ∷ 0xEE ∷ []))
    ≡ asked (params 38 true Multicast) (params 6 false PointToPoint) 36)
    × (open_of true (front ++ (0x26 ∷ 0 ∷ 0 ∷ 0x22 ∷ 0x20 ∷ 0x4E ∷ 0 ∷ 0 ∷ 0x06 ∷ 0x10 ∷ 0 ∷ 0x40 ∷ 0x21 ∷ 1 ∷ 0xFF ∷ 0xFE ∷ 0xEE ∷ []))
    ≡ asked (params 38 true Multicast) (params 0x1006 false PointToPoint) 40)
unfolding open_of open_with width_of fields_of place_at way_at triad_at params_at le le_of
opens = (refl, refl)

abbrev is_open : Option ForwardOpen → Bool
is_open (Some o) = true
is_open None = false

abbrev is_close : Option Triad → Bool
is_close (Some t) = true
is_close None = false

-- 35 and 36 bytes of a small open without a path, 39 and 40 of a large one; 65,536 and 65,537; a path cut short by a byte
pub open_sizes : (map (λ n. is_open (open_of false (replicate n 0))) (35 ∷ 36 ∷ 65536 ∷ 65537 ∷ []) ≡ false ∷ true ∷ true ∷ false ∷ [])
    × (map (λ n. is_open (open_of true (replicate n 0))) (39 ∷ 40 ∷ 65536 ∷ 65537 ∷ []) ≡ false ∷ true ∷ true ∷ false ∷ [])
    × (map (λ n. is_open (open_of false (replicate 35 0 ++ (2 ∷ replicate n 0)))) (3 ∷ 4 ∷ []) ≡ false ∷ true ∷ [])
unfolding open_of open_with width_of fields_of place_at way_at triad_at params_at le le_of
open_sizes = (refl, refl, refl)

-- ---- closes

-- priority, ticks, the triad, one word of path, a reserved byte, a path of no known segment, and a byte behind it
pub closes : close_of (0xA1 ∷ 0xA2 ∷ 0x09 ∷ 0x0A ∷ 0x0B ∷ 0x0C ∷ 0x0D ∷ 0x0E ∷ 0x0F ∷ 0x10 ∷ 1 ∷ 0xA3 ∷ 0xFF ∷ 0xFE ∷ 0xEE ∷ []) ≡ Some triad
unfolding close_of triad_at le le_of
closes = refl

-- 11 and 12 bytes without a path; 65,536 and 65,537; a path cut short by a byte
pub close_sizes : (map (λ n. is_close (close_of (replicate n 0))) (11 ∷ 12 ∷ 65536 ∷ 65537 ∷ []) ≡ false ∷ true ∷ true ∷ false ∷ [])
    × (map (λ n. is_close (close_of (replicate 10 0 ++ (2 ∷ 0 ∷ replicate n 0)))) (3 ∷ 4 ∷ []) ≡ false ∷ true ∷ [])
unfolding close_of triad_at le le_of
close_sizes = (refl, refl)
