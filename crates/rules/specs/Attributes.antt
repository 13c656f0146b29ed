-- What an object gives: an attribute by its number, or a general status. Get_Attribute_Single is the one service that the objects share.
use Rattle.std.specs.Prelude.{List, [], ◌∷◌, ◌++◌, cond, ℕ, eqb, length, Option, Some, None}
use Rattle.base_cells.specs.Numbers.{le_bytes}
pub use Rattle.rules.specs.declared.objects.Fault.{Fault}
pub use Rattle.rules.specs.declared.objects.Fault.TheVariants.{PathSegment, PathUnknown, ServiceUnknown, StateConflict, NotEnoughData, AttributeUnknown, ObjectUnknown}

-- 13.2: general status
abbrev pub status_number : Fault → ℕ
status_number PathSegment = 0x04
status_number PathUnknown = 0x05
status_number ServiceUnknown = 0x08
status_number StateConflict = 0x0C
status_number NotEnoughData = 0x13
status_number AttributeUnknown = 0x14
status_number ObjectUnknown = 0x16

-- a reply's data, or why there is none
pub data Outcome : Type 0 where
  Gives : List ℕ → Outcome
  Fails : Fault → Outcome

-- an object's attributes: each a number and its bytes
abbrev pub Attributes : Type 0
Attributes = List (ℕ × List ℕ)

abbrev pub value_of : ℕ → Attributes → Outcome
value_of a [] = Fails AttributeUnknown
value_of a (entry ∷ rest) = cond (eqb a entry.0) (Gives entry.1) (value_of a rest)

-- 13.7: a missing attribute comes before an unknown one
abbrev pub attribute_named : Option ℕ → Attributes → Outcome
attribute_named None table = Fails NotEnoughData
attribute_named (Some a) table = value_of a table

-- 13.6: any other service comes before a missing attribute
abbrev pub get_single : ℕ
get_single = 0x0E

abbrev pub single : ℕ → Option ℕ → Attributes → Outcome
single service a table = cond (eqb service get_single) (attribute_named a table) (Fails ServiceUnknown)

-- 13.5: an unknown instance comes before the service: an object has its class, instance 0, and one instance
abbrev pub among : ℕ → ℕ → Outcome → Outcome → Outcome
among one instance class here = cond (eqb instance 0) class (cond (eqb instance one) here (Fails ObjectUnknown))

-- 13.8: what every class but Assembly says of itself: revision 1, largest instance 1, one instance
abbrev pub class_attributes : Attributes
class_attributes = (1, le_bytes 2 1) ∷ (2, le_bytes 2 1) ∷ (3, le_bytes 2 1) ∷ []

-- a text: its length and its bytes
unfoldable pub short_string : List ℕ → List ℕ
short_string text = length text ∷ text

-- 13.18: the language tag: one text, "eng", a short string (DA), in ISO 8859-1 (04 00)
abbrev pub language_tag : List ℕ
language_tag = 0x01 ∷ 0x65 ∷ 0x6E ∷ 0x67 ∷ 0xDA ∷ 0x04 ∷ 0x00 ∷ []

-- 13.19: the fixed text "EDS and Icon Files"
abbrev pub file_name : List ℕ
file_name =
    0x45 ∷ 0x44 ∷ 0x53 ∷ 0x20 ∷ 0x61 ∷ 0x6E ∷ 0x64 ∷ 0x20 ∷ 0x49 ∷ 0x63 ∷ 0x6F ∷ 0x6E ∷ 0x20 ∷ 0x46 ∷ 0x69 ∷ 0x6C ∷ 0x65 ∷ 0x73 ∷ []

-- File's text attributes begin with the language tag, then a length and the text
unfoldable pub tagged_text : List ℕ → List ℕ
tagged_text text = language_tag ++ short_string text
