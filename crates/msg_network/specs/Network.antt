-- What TCP/IP and Ethernet Link say, as code has it.
use Rattle.std.specs.Prelude.{ℕ, List, [], ◌∷◌, ◌≡◌, refl, Ok}
use Rattle.std.proofs.Common.{sym, ◌∙◌}
use Rattle.base_cells.specs.Records.{sum, put_fields_eq, length_enc_fields, Puts, puts}
use Rattle.rules.specs.Attributes.{Gives}
use Rattle.rules.specs.Objects.{interface, ethernet_attributes}
use Rattle.state_rules.specs.Places.{setup_in}
use Rattle.state_rules.specs.Setups.{setup_from, setup_of}
use Rattle.state_rules.specs.Image.{view}
use Rattle.msg_attributes.specs.Told.{told}

pub ethernet_table : (s : List ℕ) → ethernet_attributes (setup_from (setup_in s) []) ≡ ethernet_attributes (view s).setup
unfolding ethernet_attributes view setup_of
ethernet_table s = refl

-- the interface's six numbers, one behind the other
abbrev pub w_interface : List ℕ
w_interface = 4 ∷ 4 ∷ 4 ∷ 4 ∷ 4 ∷ 2 ∷ []

pub gives_interface : (out : List ℕ) (local mask : ℕ) (o : List ℕ) → Puts w_interface 0 (local ∷ mask ∷ 0 ∷ 0 ∷ 0 ∷ 0 ∷ []) out o
    → (Ok 22, o) ≡ told (Gives (interface local mask)) out
unfolding interface sum told
gives_interface out local mask o p = λ i.
    let fields : List ℕ = local ∷ mask ∷ 0 ∷ 0 ∷ 0 ∷ 0 ∷ [] in
    (Ok (sym (length_enc_fields w_interface fields tt) i), (puts p ∙ put_fields_eq w_interface out 0 fields) i)
