-- What a path names to an object, and the request that a message is.
use Rattle.std.specs.Prelude.{ℕ, ◌+◌, ◌*◌, List, [], ◌∷◌, length, get_or, take, drop, ltb, leb, Option, Some, None, Result, Ok, Err}
use Rattle.wire_rules.specs.declared.Request.{Request}
use Rattle.base_cells.specs.Pick.{pick}
use Rattle.wire_rules.specs.Segments.{Segs, segs, broken, segs_of}
use Rattle.wire_rules.specs.ConnectionPath.{gather}
use Rattle.wire_rules.specs.declared.Seg.{Seg}
use Rattle.wire_rules.specs.declared.Seg.TheVariants.{Port, Class, Instance, Point, Attribute, Keyed, Data}
use Rattle.wire_rules.specs.declared.Object.{Object}

-- ---- the object

-- an object that a path names
abbrev pub object_named : ℕ → ℕ → Option Object
object_named class instance = Some (record { class = class; instance = instance })

-- 4.17: behind a class and an attribute: nothing more, and they name the class itself, instance 0
abbrev pub class_alone : ℕ → List Seg → Option Object
class_alone c [] = object_named c 0
class_alone c (x ∷ l) = None

-- 4.16: behind a class: its instance, and then anything; or nothing, or one attribute
abbrev pub in_class : ℕ → List Seg → Option Object
in_class c [] = object_named c 0
in_class c (Instance i ∷ l) = object_named c i
in_class c (Attribute a ∷ l) = class_alone c l
in_class c (Class v ∷ l) = None
in_class c (Point v ∷ l) = None
in_class c (Port p start len ∷ l) = None
in_class c (Keyed k ∷ l) = None
in_class c (Data start len ∷ l) = None

-- 4.18: a path that names an object begins with its class
abbrev pub object_in : List Seg → Option Object
object_in [] = None
object_in (Class c ∷ l) = in_class c l
object_in (Instance v ∷ l) = None
object_in (Point v ∷ l) = None
object_in (Attribute v ∷ l) = None
object_in (Port p start len ∷ l) = None
object_in (Keyed k ∷ l) = None
object_in (Data start len ∷ l) = None

-- ---- the attribute

abbrev pub attribute_of : Seg → List ℕ
attribute_of (Attribute v) = v ∷ []
attribute_of (Class v) = []
attribute_of (Instance v) = []
attribute_of (Point v) = []
attribute_of (Port p start len) = []
attribute_of (Keyed k) = []
attribute_of (Data start len) = []

abbrev pub first_of : List ℕ → Option ℕ
first_of [] = None
first_of (a ∷ l) = Some a

-- 4.19: the first attribute, wherever it stands
unfoldable pub attribute_in : List Seg → Option ℕ
attribute_in l = first_of (gather attribute_of l)

abbrev pub attribute_answer : Segs → Result (Option ℕ) ℕ
attribute_answer (segs l) = Ok (attribute_in l)
attribute_answer (broken o) = Err o

unfoldable pub first_attribute : List ℕ → Result (Option ℕ) ℕ
first_attribute s = attribute_answer (segs_of s)

-- ---- 4.13, the request: a service, the number of the path's words, the path, the data

abbrev pub message_max : ℕ
message_max = 65536

unfoldable pub request_with : ℕ → ℕ → Segs → Result Request ℕ
request_with service start (segs l) = Ok (record { service = service; object = object_in l; attribute = attribute_in l; datastart = start })
request_with service start (broken o) = Err service

-- 4.14, 4.15: a message over size, too short for its path, or with a path that does not parse is no request
unfoldable pub request_of : List ℕ → Result Request ℕ
request_of m =
    pick (ltb message_max (length m)) (Err (get_or m 0 0))
    (pick (leb (2 + get_or m 1 0 * 2) (length m))
    (request_with (get_or m 0 0) (2 + get_or m 1 0 * 2) (segs_of (take (get_or m 1 0 * 2) (drop 2 m))))
    (Err (get_or m 0 0)))
