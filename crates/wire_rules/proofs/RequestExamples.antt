-- Requests worked out byte by byte. Each wrong reading that must-fail holds breaks one.
use Rattle.std.specs.Prelude.{Some, None, Ok, Err, Option}
use Prim.Native.Nat.{ℕ}
use mathlib.Core.Path.{◌≡◌, refl}
use mathlib.Core.List.{List, [], ◌∷◌}
use lib.ListN.{replicate}
use Rattle.base_cells.specs.Numbers.{le, le_of}
use Rattle.wire_rules.specs.Segments.{Segs, segs, broken, port_offset, link_offset, link_size, port_of, port_at, logical_at, key_of, key_at, data_at, between, seg_at, step_at, segs_from, segs_of}
use Rattle.wire_rules.specs.ConnectionPath.{gather}
use Rattle.wire_rules.specs.Requests.{object_in, attribute_in, first_attribute, request_with, request_of, object_named}
use Rattle.wire_rules.specs.declared.Object.{Object}
use Rattle.wire_rules.specs.declared.Request.{Request}

pub data Example : Type 0 where
  names : List ℕ → ℕ → ℕ → Example
  names_none : List ℕ → Example
  attribute_is : List ℕ → ℕ → Example
  is_request : List ℕ → Request → Example
  no_request : List ℕ → ℕ → Example

-- the object of a path, if it parses
abbrev object_of : Segs → Option Object
object_of (segs l) = object_in l
object_of (broken o) = None

abbrev pub Holds : Example → Type 0
Holds (names s c i) = object_of (segs_of s) ≡ object_named c i
Holds (names_none s) = object_of (segs_of s) ≡ None
Holds (attribute_is s a) = first_attribute s ≡ Ok (Some a)
Holds (is_request m r) = request_of m ≡ Ok r
Holds (no_request m service) = request_of m ≡ Err service

abbrev pub All : List Example → Type 0
All [] = Unit
All (e ∷ l) = Holds e × All l

abbrev pub examples : List Example
examples =
    -- class and instance, and then anything; a number has 32 bits
    names (0x20 ∷ 0x01 ∷ 0x24 ∷ 0x02 ∷ 0x30 ∷ 0x07 ∷ []) 1 2
    ∷ names (0x22 ∷ 0x00 ∷ 0x01 ∷ 0x00 ∷ 0x01 ∷ 0x00 ∷ 0x24 ∷ 0x02 ∷ 0x01 ∷ 0x02 ∷ []) 0x10001 2
    -- a class alone, or with one attribute
    ∷ names (0x20 ∷ 0x04 ∷ []) 4 0
    ∷ names (0x20 ∷ 0x04 ∷ 0x30 ∷ 0x03 ∷ []) 4 0
    -- two attributes behind the class, a point there, a port first, an instance without a class, no segment at all
    ∷ names_none (0x20 ∷ 0x04 ∷ 0x30 ∷ 0x03 ∷ 0x30 ∷ 0x01 ∷ [])
    ∷ names_none (0x20 ∷ 0x04 ∷ 0x2C ∷ 0x64 ∷ [])
    ∷ names_none (0x01 ∷ 0x02 ∷ 0x20 ∷ 0x04 ∷ 0x24 ∷ 0x01 ∷ [])
    ∷ names_none (0x24 ∷ 0x01 ∷ [])
    ∷ names_none []
    -- the first attribute
    ∷ attribute_is (0x20 ∷ 0x04 ∷ 0x24 ∷ 0x01 ∷ 0x30 ∷ 0x03 ∷ 0x30 ∷ 0x01 ∷ []) 3
    -- a get of an attribute with one byte of data; a path of no words
    ∷ is_request (0x0E ∷ 0x03 ∷ 0x20 ∷ 0x01 ∷ 0x24 ∷ 0x01 ∷ 0x30 ∷ 0x07 ∷ 0xAA ∷ []) (record { service = 0x0E; object = object_named 1 1; attribute = Some 7; datastart = 8 })
    ∷ is_request (0x0E ∷ 0x00 ∷ []) (record { service = 0x0E; object = None; attribute = None; datastart = 2 })
    -- no byte, one byte, a path cut short (in a segment, and between two), a path that does not parse
    ∷ no_request [] 0
    ∷ no_request (0x0E ∷ []) 0x0E
    ∷ no_request (0x0E ∷ 0x01 ∷ 0x20 ∷ []) 0x0E
    ∷ no_request (0x0E ∷ 0x02 ∷ 0x20 ∷ 0x01 ∷ []) 0x0E
    ∷ no_request (0x0E ∷ 0x01 ∷ 0x28 ∷ 0x00 ∷ []) 0x0E
    -- 65,536 bytes and 65,537
    ∷ is_request (replicate 65536 0) (record { service = 0; object = None; attribute = None; datastart = 2 })
    ∷ no_request (replicate 65537 0) 0
    ∷ []

pub examples_hold : All examples
unfolding segs_of segs_from step_at seg_at between port_at port_of link_offset link_size port_offset logical_at key_at key_of data_at le le_of gather attribute_in first_attribute request_with request_of
examples_hold =
    (refl, (refl, (refl, (refl, (refl, (refl, (refl, (refl, (refl, (refl, (refl, (refl, (refl, (refl, (refl, (refl, (refl, (refl, (refl, tt)))))))))))))))))))
