-- A connection's record as code writes it: the widths of its numbers, one behind the other.
use Rattle.std.specs.Prelude.{ℕ, ◌+◌, List, [], ◌∷◌, ◌++◌, ◌≡◌, refl, length}
use Rattle.std.proofs.Common.{ap, sym, ◌∙◌, arith}
use Rattle.std.proofs.lemmas.List.Edits.{sets}
use Rattle.base_cells.specs.Numbers.{le_bytes, sets_append}
use Rattle.base_cells.specs.Records.{enc_fields, put_fields, put_fields_eq, length_enc_fields, of_bool, sum}
use Rattle.rules.specs.Events.{kind_number, info_record}
use Rattle.rules.specs.declared.Info.{Info}

-- what it tells, kind, multicast, a spare byte, originator, O→T RPI, T→O RPI
abbrev pub w_low : List ℕ
w_low = 1 ∷ 1 ∷ 1 ∷ 1 ∷ 4 ∷ 4 ∷ 4 ∷ []

-- O→T id, T→O id, input and its size, output and its size
abbrev pub w_high : List ℕ
w_high = 4 ∷ 4 ∷ 2 ∷ 2 ∷ 2 ∷ 2 ∷ []

abbrev pub list_low : ℕ → Info → List ℕ
list_low what i = what ∷ kind_number i.kind ∷ of_bool i.multicast ∷ 0 ∷ i.originator ∷ i.otrpi ∷ i.torpi ∷ []

abbrev pub list_high : Info → List ℕ
list_high i = i.otid.0 ∷ i.toid.0 ∷ i.input ∷ i.inputsize ∷ i.output ∷ i.outputsize ∷ []

pub info_is : (what : ℕ) (i : Info) → enc_fields w_low (list_low what i) ++ enc_fields w_high (list_high i) ≡ info_record what i
unfolding enc_fields le_bytes info_record
info_is what i = refl

pub length_info : (what : ℕ) (i : Info) → length (info_record what i) ≡ 32
unfolding le_bytes info_record
length_info what i = refl

-- the two halves put one after the other
pub info_put : (r r₁ r₂ : List ℕ) (what : ℕ) (i : Info) → r₁ ≡ put_fields w_low r 0 (list_low what i) → r₂ ≡ put_fields w_high r₁ 16 (list_high i)
    → r₂ ≡ sets r 0 (info_record what i)
unfolding sum
info_put r r₁ r₂ what i e₁ e₂ =
    let low : List ℕ = enc_fields w_low (list_low what i) in
    let high : List ℕ = enc_fields w_high (list_high i) in
    let n : length low ≡ 16 = length_enc_fields w_low (list_low what i) tt in
    e₂ ∙ put_fields_eq w_high r₁ 16 (list_high i)
    ∙ ap (λ (z : List ℕ). sets z 16 high) (e₁ ∙ put_fields_eq w_low r 0 (list_low what i))
    ∙ ap (λ (m : ℕ). sets (sets r 0 low) m high) (let q : 16 ≡ 0 + length low = omega arith in q)
    ∙ sym (sets_append r 0 low high)
    ∙ ap (sets r 0) (info_is what i)
