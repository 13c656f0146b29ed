-- What an open reads of a path's segments.
use Rattle.std.specs.Prelude.{ℕ, min, Bool, true, false, List, [], ◌∷◌, ◌++◌, length, get_or, Option, Some, None, Result, Ok, Err}
use Rattle.wire_rules.specs.Segments.{Segs, segs, broken, segs_of}
use Rattle.wire_rules.specs.declared.Key.{Key}
use Rattle.wire_rules.specs.declared.Seg.{Seg}
use Rattle.wire_rules.specs.declared.Seg.TheVariants.{Port, Class, Instance, Point, Attribute, Keyed, Data}
use Rattle.wire_rules.specs.declared.ConnectionPath.{ConnectionPath}

-- what the segments give, one after the other
unfoldable pub gather : {A : Type 0} → (Seg → List A) → List Seg → List A
gather f [] = []
gather f (x ∷ l) = f x ++ gather f l

unfoldable pub some : {A : Type 0} → List A → Bool
some [] = false
some (a ∷ l) = true

-- the last of a list, or a where there is none
unfoldable pub last : {A : Type 0} → A → List A → A
last a [] = a
last a (b ∷ l) = last b l

-- the last of a list, if there is one
unfoldable pub final : {A : Type 0} → List A → Option A
final [] = None
final (a ∷ l) = Some (last a l)

-- ---- what one segment gives

abbrev pub key : Seg → List Key
key (Port p start len) = []
key (Class v) = []
key (Instance v) = []
key (Point v) = []
key (Attribute v) = []
key (Keyed k) = k ∷ []
key (Data start len) = []

abbrev pub class : Seg → List ℕ
class (Port p start len) = []
class (Class v) = v ∷ []
class (Instance v) = []
class (Point v) = []
class (Attribute v) = []
class (Keyed k) = []
class (Data start len) = []

-- an instance or a point
abbrev pub number : Seg → List ℕ
number (Port p start len) = []
number (Class v) = []
number (Instance v) = v ∷ []
number (Point v) = v ∷ []
number (Attribute v) = []
number (Keyed k) = []
number (Data start len) = []

-- the place of configuration data: where it starts, and its length
abbrev pub place : Seg → List (ℕ × ℕ)
place (Port p start len) = []
place (Class v) = []
place (Instance v) = []
place (Point v) = []
place (Attribute v) = []
place (Keyed k) = []
place (Data start len) = (start, len) ∷ []

-- 4.9: a port or attribute segment, which an open may not hold
abbrev pub bar : Seg → List Seg
bar (Port p start len) = Port p start len ∷ []
bar (Class v) = []
bar (Instance v) = []
bar (Point v) = []
bar (Attribute v) = Attribute v ∷ []
bar (Keyed k) = []
bar (Data start len) = []

-- ---- what the path gives, in its order

abbrev pub keys_in : List Seg → List Key
keys_in l = gather key l

abbrev pub classes_in : List Seg → List ℕ
classes_in l = gather class l

-- the instances and points
abbrev pub numbers_in : List Seg → List ℕ
numbers_in l = gather number l

abbrev pub places_in : List Seg → List (ℕ × ℕ)
places_in l = gather place l

abbrev pub bars_in : List Seg → List Seg
bars_in l = gather bar l

abbrev pub no_key : Key
no_key = record { vendor = 0; device = 0; product = 0; major = 0; minor = 0 }

-- 4.10 to 4.12: the last key; the last class, and the instances and points in order; the last data
unfoldable pub connection_path : List Seg → ConnectionPath
connection_path l =
    record {
      barred = some (bars_in l);
      key = final (keys_in l);
      class = final (classes_in l);
      count = min (length (numbers_in l)) 4;
      first = get_or (numbers_in l) 0 0;
      second = get_or (numbers_in l) 1 0;
      third = get_or (numbers_in l) 2 0;
      datastart = (last (0, 0) (places_in l)).0;
      datalen = (last (0, 0) (places_in l)).1;
    }

abbrev pub path_read : Segs → Result ConnectionPath ℕ
path_read (segs l) = Ok (connection_path l)
path_read (broken o) = Err o

-- what an open reads of a path, or where it does not parse
unfoldable pub path_of : List ℕ → Result ConnectionPath ℕ
path_of s = path_read (segs_of s)
