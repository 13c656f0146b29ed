-- A number's bytes as the library writes them are the rules'; a number that no entry of a table has; and the attribute asked for.
use Rattle.std.specs.Prelude.{ℕ, ◌<◌, ◌^◌, ◌≡◌, refl, List, [], ◌∷◌, Bool, true, false, cond, eqb, Option, Some, None, Result, Err}
use Rattle.std.specs.Int.{to_le_bytes, w16, w32}
use Rattle.std.proofs.Common.{ap, sym, ◌∙◌, ne_eqb, arith}
use Rattle.std.proofs.lemmas.Grind.{common_steps}
use Rattle.base_cells.specs.Numbers.{le_bytes}
use Rattle.rules.specs.declared.objects.Fault.{Fault}
use Rattle.rules.specs.declared.objects.Fault.TheVariants.{ServiceUnknown, AttributeUnknown}
use Rattle.rules.specs.Attributes.{Outcome, Gives, Fails, Attributes, value_of, attribute_named, get_single, single}
use Rattle.msg_attributes.specs.Told.{told, wanted, wanted_of, value_for}

pub bytes_of_2 : (v : ℕ) → v < 2 ^ 16 → to_le_bytes w16 v ≡ le_bytes 2 v
unfolding le_bytes
bytes_of_2 v h = grind (arith, common_steps)

pub bytes_of_4 : (v : ℕ) → v < 2 ^ 32 → to_le_bytes w32 v ≡ le_bytes 4 v
unfolding le_bytes
bytes_of_4 v h = grind (arith, common_steps)

-- a number that no entry has
abbrev pub Without : ℕ → Attributes → Type 0
Without n [] = Unit {0}
Without n (entry ∷ rest) = (n ≡ entry.0 → ⊥) × Without n rest

value_past : (table : Attributes) (n : ℕ) → Without n table → value_of n table ≡ Fails AttributeUnknown
value_past [] n h = refl
value_past (entry ∷ rest) n h =
    ap (λ (b : Bool). cond b (Gives entry.1) (value_of n rest)) (ne_eqb n entry.0 h.0) ∙ value_past rest n h.1

pub value_none : (out : List ℕ) (table : Attributes) (n : ℕ) → Without n table → ◌≡◌ {A = Result ℕ Fault × List ℕ} (Err AttributeUnknown, out) (told (value_of n table) out)
unfolding told
value_none out table n h = sym (ap (λ (o : Outcome). told o out) (value_past table n h))

-- ---- the service and the attribute asked for

named : (b : Bool) (a : Option ℕ) (table : Attributes)
    → value_for (cond b (wanted_of a) (Err ServiceUnknown)) table ≡ cond b (attribute_named a table) (Fails ServiceUnknown)
named true None table = refl
named true (Some n) table = refl
named false a table = refl

pub wanted_single : (service : ℕ) (a : Option ℕ) (table : Attributes) → value_for (wanted service a) table ≡ single service a table
unfolding wanted
wanted_single service a table = named (eqb service get_single) a table

module _ (service : ℕ) (a : Option ℕ) (table : Attributes) (out : List ℕ) (w : Result ℕ Fault) (e : w ≡ wanted service a) where
  pub told_wanted : (x : Result ℕ Fault × List ℕ) (v : Result ℕ Fault) → w ≡ v → x ≡ told (value_for v table) out → x ≡ told (single service a table) out
  told_wanted x v f g =
      g ∙ ap (λ (z : Result ℕ Fault). told (value_for z table) out) (sym f ∙ e) ∙ ap (λ (z : Outcome). told z out) (wanted_single service a table)
