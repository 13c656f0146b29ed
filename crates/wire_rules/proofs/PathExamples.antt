-- Paths worked out byte by byte: their segments, and what an open reads of them. Each wrong reading that must-fail holds breaks one.
use Rattle.std.specs.Prelude.{Result, Ok, Err, None, Some}
use Rattle.wire_rules.specs.declared.ConnectionPath.{ConnectionPath}
use Prim.Native.Nat.{ℕ}
use mathlib.Core.Path.{◌≡◌, refl}
use mathlib.Core.Bool.{Bool, true, false}
use mathlib.Core.List.{List, [], ◌∷◌, map}
use lib.ListN.{replicate}
use Rattle.base_cells.specs.Numbers.{le, le_of}
use Rattle.wire_rules.specs.Segments.{Segs, segs, broken, port_offset, link_offset, link_size, port_of, port_at, logical_at, key_of, key_at, data_at, between, seg_at, step_at, segs_from, segs_of}
use Rattle.wire_rules.specs.ConnectionPath.{gather, some, last, final, connection_path, path_of}
use Rattle.wire_rules.specs.declared.Key.{Key}
use Rattle.wire_rules.specs.declared.Seg.{Seg}
use Rattle.wire_rules.specs.declared.Seg.TheVariants.{Port, Class, Instance, Point, Attribute, Keyed, Data}

-- ---- segments

abbrev key : ℕ → Key
key vendor = record { vendor = vendor; device = 0x0403; product = 0x0605; major = 0x87; minor = 8 }

-- a key with a byte of its own for each field; the vendor is the low byte's
abbrev key_bytes : ℕ → List ℕ
key_bytes vendor = 0x34 ∷ 0x04 ∷ vendor ∷ 0x00 ∷ 0x03 ∷ 0x04 ∷ 0x05 ∷ 0x06 ∷ 0x87 ∷ 0x08 ∷ []

pub data Example : Type 0 where
  is_path : List ℕ → List Seg → Example
  breaks_at : List ℕ → ℕ → Example

abbrev pub Holds : Example → Type 0
Holds (is_path s l) = segs_of s ≡ segs l
Holds (breaks_at s o) = segs_of s ≡ broken o

abbrev pub All : List Example → Type 0
All [] = Unit
All (e ∷ l) = Holds e × All l

abbrev pub examples : List Example
examples =
    is_path (0x20 ∷ 0x04 ∷ 0x24 ∷ 0x05 ∷ 0x2C ∷ 0x64 ∷ 0x2C ∷ 0x65 ∷ []) (Class 4 ∷ Instance 5 ∷ Point 100 ∷ Point 101 ∷ [])
    ∷ breaks_at (0x20 ∷ []) 0
    -- no bytes, no segments
    ∷ is_path [] []
    -- 16 and 32 bits; the pad byte before them is not read
    ∷ is_path (0x21 ∷ 0xFF ∷ 0x01 ∷ 0x02 ∷ 0x22 ∷ 0xFF ∷ 0x01 ∷ 0x02 ∷ 0x03 ∷ 0x04 ∷ []) (Class 0x201 ∷ Class 0x4030201 ∷ [])
    ∷ is_path (0x25 ∷ 0xFF ∷ 0x01 ∷ 0x02 ∷ 0x26 ∷ 0xFF ∷ 0x01 ∷ 0x02 ∷ 0x03 ∷ 0x04 ∷ []) (Instance 0x201 ∷ Instance 0x4030201 ∷ [])
    ∷ is_path (0x2D ∷ 0xFF ∷ 0x01 ∷ 0x02 ∷ 0x2E ∷ 0xFF ∷ 0x01 ∷ 0x02 ∷ 0x03 ∷ 0x04 ∷ []) (Point 0x201 ∷ Point 0x4030201 ∷ [])
    ∷ is_path (0x30 ∷ 0x07 ∷ 0x31 ∷ 0xFF ∷ 0x01 ∷ 0x02 ∷ 0x32 ∷ 0xFF ∷ 0x01 ∷ 0x02 ∷ 0x03 ∷ 0x04 ∷ []) (Attribute 7 ∷ Attribute 0x201 ∷ Attribute 0x4030201 ∷ [])
    -- the second segment runs past the end
    ∷ breaks_at (0x20 ∷ 0x04 ∷ 0x24 ∷ []) 2
    ∷ breaks_at (0x20 ∷ 0x04 ∷ 0x25 ∷ 0x00 ∷ 0x01 ∷ []) 2
    -- a port with a link of one byte; a port of 16 bits; a link of three bytes is padded, and the pad must be there; both
    ∷ is_path (0x01 ∷ 0x05 ∷ []) (Port 1 1 1 ∷ [])
    ∷ is_path (0x0F ∷ 0x34 ∷ 0x12 ∷ 0x01 ∷ []) (Port 0x1234 3 1 ∷ [])
    ∷ is_path (0x12 ∷ 0x03 ∷ 0x31 ∷ 0x2E ∷ 0x32 ∷ 0x00 ∷ 0x20 ∷ 0x06 ∷ []) (Port 2 2 3 ∷ Class 6 ∷ [])
    ∷ breaks_at (0x12 ∷ 0x03 ∷ 0x31 ∷ 0x2E ∷ 0x32 ∷ []) 0
    ∷ is_path (0x1F ∷ 0x02 ∷ 0x34 ∷ 0x12 ∷ 0x31 ∷ 0x32 ∷ []) (Port 0x1234 4 2 ∷ [])
    -- a key, a key of another format, a key cut short; two words of data, and data cut short
    ∷ is_path (key_bytes 1) (Keyed (key 1) ∷ [])
    ∷ breaks_at (0x34 ∷ 0x05 ∷ 0x01 ∷ 0x00 ∷ 0x03 ∷ 0x04 ∷ 0x05 ∷ 0x06 ∷ 0x87 ∷ 0x08 ∷ []) 0
    ∷ breaks_at (0x34 ∷ 0x04 ∷ 0x01 ∷ 0x00 ∷ 0x03 ∷ 0x04 ∷ 0x05 ∷ 0x06 ∷ 0x87 ∷ []) 0
    ∷ is_path (0x80 ∷ 0x02 ∷ 0xA1 ∷ 0xA2 ∷ 0xA3 ∷ 0xA4 ∷ 0x20 ∷ 0x04 ∷ []) (Data 2 4 ∷ Class 4 ∷ [])
    ∷ breaks_at (0x80 ∷ 0x02 ∷ 0xA1 ∷ 0xA2 ∷ 0xA3 ∷ []) 0
    -- 510 bytes, 511 and 512
    ∷ is_path (0x80 ∷ 254 ∷ replicate 508 0) (Data 2 508 ∷ [])
    ∷ breaks_at (0x80 ∷ 254 ∷ replicate 509 0) 510
    ∷ breaks_at (0x80 ∷ 255 ∷ replicate 510 0) 510
    ∷ []

pub examples_hold : All examples
unfolding segs_of segs_from step_at seg_at between port_at port_of link_offset link_size port_offset logical_at key_at key_of data_at le le_of
examples_hold = (
  refl,
  (
    refl,
    (
      refl,
      (
        refl,
        (
          refl,
          (
            refl,
            (
              refl,
              (
                refl,
                (
                  refl,
                  (
                    refl,
                    (
                      refl,
                      (refl, (refl, (refl, (refl, (refl, (refl, (refl, (refl, (refl, (refl, (refl, tt))))))))))),
                    ),
                  ),
                ),
              ),
            ),
          ),
        ),
      ),
    ),
  ),
)

-- no segment begins with one of these: the fourth width, member ids, special and service ids, the other kinds
abbrev pub unknown : List ℕ
unknown = 0x23 ∷ 0x27 ∷ 0x28 ∷ 0x2B ∷ 0x2F ∷ 0x33 ∷ 0x35 ∷ 0x38 ∷ 0x40 ∷ 0x7F ∷ 0x81 ∷ 0x91 ∷ 0xFF ∷ []

pub unknown_break : map (λ b. segs_of (b ∷ replicate 9 0)) unknown ≡ map (λ b. broken 0) unknown
unfolding segs_of segs_from step_at seg_at between
unknown_break = refl

-- ---- what an open reads

abbrev barred_in : Result ConnectionPath ℕ → Bool
barred_in (Ok p) = p.barred
barred_in (Err o) = false

-- a port, an attribute; a class, an instance, a point, a key, data
pub barring : map (λ s. barred_in (path_of s)) (
    (0x01 ∷ 0x05 ∷ []) ∷ (0x30 ∷ 0x01 ∷ []) ∷ (0x20 ∷ 0x04 ∷ []) ∷ (0x24 ∷ 0x01 ∷ []) ∷ (0x2C ∷ 0x01 ∷ []) ∷ key_bytes 1 ∷ (0x80 ∷ 0x00 ∷ []) ∷ [])
    ≡ true ∷ true ∷ false ∷ false ∷ false ∷ false ∷ false ∷ []
unfolding path_of connection_path gather some last final segs_of segs_from step_at seg_at between port_at port_of link_offset link_size port_offset logical_at key_at key_of data_at le le_of
barring = refl

-- an empty path; then of two keys, two classes and two data segments (the last of no bytes) the last each, and of five instances and
-- points the first three
pub read_of_a_path : (path_of []
    ≡ Ok (record { barred = false; key = None; class = None; count = 0; first = 0; second = 0; third = 0; datastart = 0; datalen = 0 }))
    × (path_of (
    0x34 ∷ 0x04 ∷ 0x01 ∷ 0x00 ∷ 0x03 ∷ 0x04 ∷ 0x05 ∷ 0x06 ∷ 0x87 ∷ 0x08 ∷ 0x80 ∷ 0x01 ∷ 0xA1 ∷ 0xA2 ∷ 0x20 ∷ 0x06 ∷ 0x20 ∷ 0x04 ∷ 0x24 ∷ 0x05
    ∷ 0x2C ∷ 0x64 ∷ 0x24 ∷ 0x06 ∷ 0x2C ∷ 0x65 ∷ 0x2C ∷ 0x66 ∷ 0x80 ∷ 0x00 ∷ key_bytes 2)
    ≡ Ok (record { barred = false; key = Some (key 2); class = Some 4; count = 4; first = 5; second = 100; third = 6; datastart = 30; datalen = 0 }))
unfolding path_of connection_path gather some last final segs_of segs_from step_at seg_at between port_at port_of link_offset link_size port_offset logical_at key_at key_of data_at le le_of
read_of_a_path = (refl, refl)
