-- Lent bytes that a step may leave as they are; and File's attributes in two parts.
use Rattle.std.specs.Prelude.{ℕ, Bool, cond, List, [], ◌∷◌, ◌++◌, ◌≡◌, refl, length, Result}
use Rattle.std.proofs.Common.{ap, sym, ◌∙◌, ne_eqb}
use Rattle.base_cells.specs.Numbers.{le_bytes}
use Rattle.rules.specs.declared.objects.Fault.{Fault}
use Rattle.rules.specs.State.{Setup}
use Rattle.rules.specs.Attributes.{Outcome, Gives, Attributes, value_of, tagged_text, file_name}
use Rattle.rules.specs.Upload.{checksum}
use Rattle.rules.specs.Objects.{file_attributes}
use Rattle.msg_attributes.specs.Told.{told}
use Rattle.msg_attributes.specs.Values.{Without}
use Rattle.msg_positions.specs.Positions.{dec_upload, enc_upload}

-- 8 bytes that say an upload in the one way in which it is written
pub record Whole (l : List ℕ) : Type 0 where
  pub long : length l ≡ 8
  pub again : enc_upload (dec_upload l) ≡ l

abbrev pub first_attributes : Setup → Attributes
first_attributes u =
    (1, 2 ∷ []) ∷
    (2, tagged_text file_name) ∷
    (3, le_bytes 2 1) ∷
    (4, tagged_text u.eds_name) ∷
    (5, u.identity.major ∷ u.identity.minor ∷ []) ∷
    []

abbrev pub last_attributes : List ℕ → Attributes
last_attributes eds =
    (6, le_bytes 4 (length eds)) ∷
    (7, le_bytes 2 (checksum eds)) ∷
    (8, 0 ∷ []) ∷
    (9, 0 ∷ []) ∷
    (10, 1 ∷ []) ∷
    (11, 0 ∷ []) ∷
    []

pub all_attributes : (u : Setup) (eds : List ℕ) → first_attributes u ++ last_attributes eds ≡ file_attributes u eds
unfolding file_attributes
all_attributes u eds = refl

-- a number that is not among the first is looked for among the last
value_behind : (front rest : Attributes) (n : ℕ) → Without n front → value_of n (front ++ rest) ≡ value_of n rest
value_behind [] rest n h = refl
value_behind (entry ∷ front) rest n h =
    ap (λ (b : Bool). cond b (Gives entry.1) (value_of n (front ++ rest))) (ne_eqb n entry.0 h.0) ∙ value_behind front rest n h.1

pub told_behind : (out : List ℕ) (u : Setup) (eds : List ℕ) (n : ℕ) (x : Result ℕ Fault × List ℕ) → Without n (first_attributes u)
    → x ≡ told (value_of n (last_attributes eds)) out → x ≡ told (value_of n (file_attributes u eds)) out
told_behind out u eds n x h e =
    e ∙ ap (λ (o : Outcome). told o out) (sym (value_behind (first_attributes u) (last_attributes eds) n h))
    ∙ ap (λ (t : Attributes). told (value_of n t) out) (all_attributes u eds)
