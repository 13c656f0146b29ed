-- The segments of a padded EPATH.
use Rattle.std.specs.Prelude.{ℕ, zero, suc, ◌+◌, ◌*◌, ◌/◌, ◌%◌, Bool, false, List, [], ◌∷◌, length, get_or, ltb, leb, eqb}
use Rattle.base_cells.specs.Pick.{pick}
use Rattle.base_cells.specs.Numbers.{le}
use Rattle.wire_rules.specs.declared.Key.{Key}
use Rattle.wire_rules.specs.declared.Seg.{Seg}
use Rattle.wire_rules.specs.declared.Seg.TheVariants.{Port, Class, Instance, Point, Attribute, Keyed, Data}
use Rattle.wire_rules.specs.declared.SegStep.{SegStep}
use Rattle.wire_rules.specs.declared.SegStep.TheVariants.{Segment, End, Broken}

-- 4.1: a path has up to 510 bytes
abbrev pub path_max : ℕ
path_max = 510

-- 4.2: the segment x at `at`, which takes the bytes up to `next`, unless it runs past the end
abbrev pub up_to : List ℕ → ℕ → Seg → ℕ → SegStep
up_to s at x next = pick (leb next (length s)) (Segment x next) (Broken at)

abbrev pub even_up : ℕ → ℕ
even_up n = (n + 1) / 2 * 2

-- ---- 4.3, a port segment: bit 4 of its first byte says that the link's size follows (else the link is one byte), the low four
-- ---- bits are the port, or 15 where a port of 16 bits follows; then comes the link; an odd segment is padded to even

abbrev pub sized : ℕ → Bool
sized first = eqb (first / 16) 1

abbrev pub wide : ℕ → Bool
wide first = eqb (first % 16) 15

-- where a port of 16 bits stands in the segment
unfoldable pub port_offset : ℕ → ℕ
port_offset first = pick (sized first) 2 1

-- where the link stands in the segment
unfoldable pub link_offset : ℕ → ℕ
link_offset first = port_offset first + pick (wide first) 2 0

unfoldable pub link_size : ℕ → ℕ → ℕ
link_size first second = pick (sized first) second 1

unfoldable pub port_of : List ℕ → ℕ → ℕ
port_of s at = pick (wide (get_or s at 0)) (le 2 s (at + port_offset (get_or s at 0))) (get_or s at 0 % 16)

unfoldable pub port_at : List ℕ → ℕ → SegStep
port_at s at =
    up_to s at (Port (port_of s at) (at + link_offset (get_or s at 0)) (link_size (get_or s at 0) (get_or s (at + 1) 0)))
    (at + even_up (link_offset (get_or s at 0) + link_size (get_or s at 0) (get_or s (at + 1) 0)))

-- ---- 4.5, a logical segment: the low two bits of its first byte say the width of its value

-- a value of 8 bits, or of 16 or 32 bits after a pad byte that is not read
unfoldable pub logical_at : List ℕ → ℕ → (ℕ → Seg) → SegStep
logical_at s at kind =
    pick (eqb (get_or s at 0 % 4) 0) (up_to s at (kind (get_or s (at + 1) 0)) (at + 2))
    (pick (eqb (get_or s at 0 % 4) 1) (up_to s at (kind (le 2 s (at + 2))) (at + 4))
    (up_to s at (kind (le 4 s (at + 2))) (at + 6)))

-- ---- 4.6, an electronic key of format 4: ten bytes

unfoldable pub key_of : List ℕ → ℕ → Key
key_of s at =
    record {
      vendor = le 2 s (at + 2);
      device = le 2 s (at + 4);
      product = le 2 s (at + 6);
      major = get_or s (at + 8) 0;
      minor = get_or s (at + 9) 0;
    }

unfoldable pub key_at : List ℕ → ℕ → SegStep
key_at s at = pick (eqb (get_or s (at + 1) 0) 4) (up_to s at (Keyed (key_of s at)) (at + 10)) (Broken at)

-- ---- 4.7, a data segment: a count of words, then these

unfoldable pub data_at : List ℕ → ℕ → SegStep
data_at s at = up_to s at (Data (at + 2) (get_or s (at + 1) 0 * 2)) (at + 2 + get_or s (at + 1) 0 * 2)

-- ---- any segment

unfoldable pub between : ℕ → ℕ → ℕ → Bool
between low high b = pick (leb low b) (leb b high) false

-- 4.4, 4.8: the segment at `at`, by its first byte; any other first byte does not parse
unfoldable pub seg_at : List ℕ → ℕ → SegStep
seg_at s at =
    pick (between 0x00 0x1F (get_or s at 0)) (port_at s at)
    (pick (between 0x20 0x22 (get_or s at 0)) (logical_at s at Class)
    (pick (between 0x24 0x26 (get_or s at 0)) (logical_at s at Instance)
    (pick (between 0x2C 0x2E (get_or s at 0)) (logical_at s at Point)
    (pick (between 0x30 0x32 (get_or s at 0)) (logical_at s at Attribute)
    (pick (eqb (get_or s at 0) 0x34) (key_at s at)
    (pick (eqb (get_or s at 0) 0x80) (data_at s at)
    (Broken at)))))))

-- what a reader at a place finds; a path over size is broken where it exceeds the size, and a place past the end is broken
unfoldable pub step_at : List ℕ → ℕ → SegStep
step_at s at =
    pick (ltb path_max (length s)) (Broken path_max)
    (pick (eqb at (length s)) End
    (pick (ltb at (length s)) (seg_at s at)
    (Broken at)))

-- ---- the whole path

-- all the segments, or the offset of the first that does not parse
pub data Segs : Type 0 where
  segs : List Seg → Segs
  broken : ℕ → Segs

abbrev pub cons : Seg → Segs → Segs
cons x (segs l) = segs (x ∷ l)
cons x (broken o) = broken o

abbrev pub follow : SegStep → (ℕ → Segs) → Segs
follow (Segment x next) rest = cons x (rest next)
follow End rest = segs []
follow (Broken o) rest = broken o

-- the segments from `at` to the end, of which there are fewer than `n`
unfoldable pub segs_from : ℕ → List ℕ → ℕ → Segs
segs_from zero s at = broken at
segs_from (suc n) s at = follow (step_at s at) (segs_from n s)

-- the segments of a path: each takes a byte at least, so there are no more than its bytes
unfoldable pub segs_of : List ℕ → Segs
segs_of s = segs_from (length s + 1) s 0
