-- What the host is told of paths and requests, worked out byte by byte as one statement over one list.
use mathlib.Core.List.{List, [], ◌∷◌, map}
use mathlib.Core.Path.{◌≡◌, refl}
use Prim.Native.Nat.{ℕ}
use Rattle.base_cells.specs.Numbers.{le_bytes, le, le_of}
use Rattle.base_cells.specs.Records.{enc_fields}
use Rattle.wire_rules.specs.Segments.{port_at, logical_at, key_of, key_at, data_at, between, seg_at, step_at, segs_from, segs_of}
use Rattle.wire_rules.specs.ConnectionPath
use Rattle.wire_rules.specs.ConnectionPath.{gather, last, connection_path, path_of}
use Rattle.wire_rules.specs.Requests.{attribute_in, request_with, request_of}
use Rattle.rules.specs.Answers.{Answer, Wrote, Refused, NotParsed, NoRoom}
use Rattle.rules.specs.Routing.{path_record, path_answer, request_record, request_answer}

pub record Example : Type 0 where
  pub given : Answer
  pub wanted : Answer

-- class 4, instance 5, points 100 and 101
abbrev pub four_path : List ℕ
four_path = 0x20 ∷ 0x04 ∷ 0x24 ∷ 0x05 ∷ 0x2C ∷ 0x64 ∷ 0x2C ∷ 0x65 ∷ []

-- a key for vendor 0x0201, class 0x0201, instance 5, points 100 to 102, four bytes of data, attribute 1
abbrev pub full_path : List ℕ
full_path =
    0x34 ∷ 0x04 ∷ 0x01 ∷ 0x02 ∷ 0x03 ∷ 0x04 ∷ 0x05 ∷ 0x06 ∷ 0x87 ∷ 0x08 ∷ 0x21 ∷ 0x00 ∷ 0x01 ∷ 0x02 ∷ 0x24 ∷ 0x05 ∷ 0x2C ∷ 0x64 ∷ 0x2C ∷ 0x65
    ∷ 0x2C ∷ 0x66 ∷ 0x80 ∷ 0x02 ∷ 0xA1 ∷ 0xA2 ∷ 0xA3 ∷ 0xA4 ∷ 0x30 ∷ 0x01 ∷ []

-- get attribute 7 of Identity instance 1
abbrev pub get_name : List ℕ
get_name = 0x0E ∷ 3 ∷ 0x20 ∷ 1 ∷ 0x24 ∷ 1 ∷ 0x30 ∷ 7 ∷ []

abbrev pub examples : List Example
examples =
    record {
      given = path_answer four_path 32;
      wanted = Wrote (0 ∷ 0 ∷ 1 ∷ 3 ∷ 0 ∷ 0 ∷ 0 ∷ 0 ∷ 0 ∷ 0 ∷ 0 ∷ 0 ∷ 4 ∷ 0 ∷ 0 ∷ 0 ∷ 5 ∷ 0 ∷ 0 ∷ 0 ∷ 100 ∷ 0 ∷ 0 ∷ 0 ∷ 101 ∷ 0 ∷ 0 ∷ 0 ∷ 0 ∷ 0 ∷ 0 ∷ 0 ∷ []);
    } ∷
    -- a key, a class, four instances and points, two words of data, an attribute: every field with bytes of its own
    record {
      given = path_answer full_path 32;
      wanted = Wrote (1 ∷ 1 ∷ 1 ∷ 4 ∷ 0x01 ∷ 0x02 ∷ 0x03 ∷ 0x04 ∷ 0x05 ∷ 0x06 ∷ 0x87 ∷ 0x08 ∷ 0x01 ∷ 0x02 ∷ 0 ∷ 0 ∷ 5 ∷ 0 ∷ 0 ∷ 0 ∷ 100 ∷ 0 ∷ 0 ∷ 0 ∷ 101 ∷ 0 ∷ 0 ∷ 0 ∷ 24 ∷ 0 ∷ 4 ∷ 0 ∷ []);
    } ∷
    record { given = path_answer four_path 31; wanted = Refused NoRoom } ∷
    record { given = path_answer (0x20 ∷ []) 0; wanted = Refused NotParsed } ∷
    record {
      given = request_answer get_name 20;
      wanted = Wrote (0x0E ∷ 1 ∷ 1 ∷ 0 ∷ 1 ∷ 0 ∷ 0 ∷ 0 ∷ 1 ∷ 0 ∷ 0 ∷ 0 ∷ 7 ∷ 0 ∷ 0 ∷ 0 ∷ 8 ∷ 0 ∷ 0 ∷ 0 ∷ []);
    } ∷
    -- a path without an attribute, and one that names nothing
    record {
      given = request_answer (0x4B ∷ 2 ∷ 0x20 ∷ 0x37 ∷ 0x24 ∷ 0xC8 ∷ 9 ∷ []) 20;
      wanted = Wrote (0x4B ∷ 1 ∷ 0 ∷ 0 ∷ 0x37 ∷ 0 ∷ 0 ∷ 0 ∷ 0xC8 ∷ 0 ∷ 0 ∷ 0 ∷ 0 ∷ 0 ∷ 0 ∷ 0 ∷ 6 ∷ 0 ∷ 0 ∷ 0 ∷ []);
    } ∷
    record {
      given = request_answer (0x0E ∷ 1 ∷ 0x30 ∷ 7 ∷ []) 20;
      wanted = Wrote (0x0E ∷ 0 ∷ 1 ∷ 0 ∷ 0 ∷ 0 ∷ 0 ∷ 0 ∷ 0 ∷ 0 ∷ 0 ∷ 0 ∷ 7 ∷ 0 ∷ 0 ∷ 0 ∷ 4 ∷ 0 ∷ 0 ∷ 0 ∷ []);
    } ∷
    record { given = request_answer get_name 19; wanted = Refused NoRoom } ∷
    record { given = request_answer (0x0E ∷ 3 ∷ []) 0; wanted = Refused NotParsed } ∷
    []

abbrev pub given : Example → Answer
given e = e.given

abbrev pub wanted : Example → Answer
wanted e = e.wanted

pub examples_hold : map given examples ≡ map wanted examples
unfolding path_answer path_record request_answer request_record path_of connection_path segs_of segs_from step_at seg_at between port_at logical_at key_at key_of data_at gather ConnectionPath.some last ConnectionPath.final request_of request_with attribute_in le le_of le_bytes enc_fields
examples_hold = refl
