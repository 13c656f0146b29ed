-- What an outcome of the rules leaves: its bytes at the start of the output and how many they are, or its fault and the output as it was.
use Rattle.std.specs.Prelude.{ℕ, cond, List, eqb, length, Option, Some, None, Result, Ok, Err}
use Rattle.std.proofs.lemmas.List.Edits.{sets}
use Rattle.rules.specs.declared.objects.Fault.{Fault}
use Rattle.rules.specs.declared.objects.Fault.TheVariants.{ServiceUnknown, NotEnoughData}
use Rattle.rules.specs.Attributes.{Outcome, Gives, Fails, Attributes, value_of, get_single}

unfoldable pub told : Outcome → List ℕ → Result ℕ Fault × List ℕ
told (Gives bs) out = (Ok (length bs), sets out 0 bs)
told (Fails f) out = (Err f, out)

-- the attribute that Get_Attribute_Single asks for; and what a table of attributes says of it
abbrev pub wanted_of : Option ℕ → Result ℕ Fault
wanted_of None = Err NotEnoughData
wanted_of (Some n) = Ok n

unfoldable pub wanted : ℕ → Option ℕ → Result ℕ Fault
wanted service a = cond (eqb service get_single) (wanted_of a) (Err ServiceUnknown)

abbrev pub value_for : Result ℕ Fault → Attributes → Outcome
value_for (Ok n) table = value_of n table
value_for (Err f) table = Fails f
