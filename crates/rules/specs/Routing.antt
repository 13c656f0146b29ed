-- What a host needs to route bytes by itself: what a path says, and what an explicit message asks. Neither touches the state.
use Rattle.std.specs.Prelude.{List, [], ◌∷◌, ℕ, is_some, unwrap_or, Option, Some, None, Result, Ok, Err}
use Rattle.base_cells.specs.Records.{enc_fields, of_bool}
use Rattle.wire_rules.specs.declared.Key.{Key}
use Rattle.wire_rules.specs.declared.ConnectionPath.{ConnectionPath}
use Rattle.wire_rules.specs.ConnectionPath.{no_key, path_of}
use Rattle.wire_rules.specs.declared.Object.{Object}
use Rattle.wire_rules.specs.declared.Request.{Request}
use Rattle.wire_rules.specs.Requests.{request_of}
use Rattle.rules.specs.Answers.{Answer, Wrote, Refused, NotParsed, fitting}

-- 15.2: where the path has no key or class, zeros
abbrev pub key_told : ConnectionPath → Key
key_told p = unwrap_or p.key no_key

-- 15.2: the record of a path, 32 bytes: port or attribute segment, key, class (1 if there is one), the number of instances and points (4 for
-- more); the last key; the last class; the first three instances and points; where the last data segment stands, and its length
unfoldable pub path_record : ConnectionPath → List ℕ
path_record p =
    enc_fields (1 ∷ 1 ∷ 1 ∷ 1 ∷ 2 ∷ 2 ∷ 2 ∷ 1 ∷ 1 ∷ 4 ∷ 4 ∷ 4 ∷ 4 ∷ 2 ∷ 2 ∷ [])
    (of_bool p.barred ∷ of_bool (is_some p.key) ∷ of_bool (is_some p.class) ∷ p.count ∷
    (key_told p).vendor ∷ (key_told p).device ∷ (key_told p).product ∷ (key_told p).major ∷ (key_told p).minor ∷
    unwrap_or p.class 0 ∷ p.first ∷ p.second ∷ p.third ∷ p.datastart ∷ p.datalen ∷ [])

abbrev pub path_for : ℕ → Result ConnectionPath ℕ → Answer
path_for room (Err offset) = Refused NotParsed
path_for room (Ok p) = fitting room (path_record p) (Wrote (path_record p))

-- 15.1: PATH: No. 4, 8
unfoldable pub path_answer : List ℕ → ℕ → Answer
path_answer path room = path_for room (path_of path)

-- an object that a path does not name, or an attribute, is told by a 0 before its numbers
abbrev pub is_named : Option Object → ℕ
is_named (Some o) = 1
is_named None = 0

abbrev pub class_of : Option Object → ℕ
class_of (Some o) = o.class
class_of None = 0

abbrev pub instance_of : Option Object → ℕ
instance_of (Some o) = o.instance
instance_of None = 0

abbrev pub has_attribute : Option ℕ → ℕ
has_attribute (Some a) = 1
has_attribute None = 0

abbrev pub attribute_of : Option ℕ → ℕ
attribute_of (Some a) = a
attribute_of None = 0

-- 15.4: the record of a request, 20 bytes: service, whether it names an object and an attribute, a spare byte; class, instance, attribute; where
-- its data begins
unfoldable pub request_record : Request → List ℕ
request_record r =
    enc_fields (1 ∷ 1 ∷ 1 ∷ 1 ∷ 4 ∷ 4 ∷ 4 ∷ 4 ∷ [])
    (r.service ∷ is_named r.object ∷ has_attribute r.attribute ∷ 0 ∷
    class_of r.object ∷ instance_of r.object ∷ attribute_of r.attribute ∷ r.datastart ∷ [])

abbrev pub request_for : ℕ → Result Request ℕ → Answer
request_for room (Err service) = Refused NotParsed
request_for room (Ok r) = fitting room (request_record r) (Wrote (request_record r))

-- 15.3: REQUEST: No. 4, 8
unfoldable pub request_answer : List ℕ → ℕ → Answer
request_answer message room = request_for room (request_of message)
