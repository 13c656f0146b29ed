-- A step over the lent position: what is told of its outcome, and the upload after it, written into the position's 8 bytes.
use Rattle.std.specs.Prelude.{true, List, ◌++◌, ◌≡◌, ℕ, ◌+◌, length, take, Option, Result}
use Rattle.rules.specs.declared.objects.Fault.{Fault}
use Rattle.std.proofs.Common.{append-nil, ap, ◌∙◌, arith, drop_of_length-le}
use Rattle.std.proofs.lemmas.List.Edits.{sets-eq}
use Rattle.base_cells.specs.Records.{sum, enc_fields, put_fields, put_fields_eq, length_enc_fields}
use Rattle.base_cells.specs.Back.{Bytes}
use Rattle.rules.specs.Attributes.{Outcome}
use Rattle.rules.specs.declared.objects.Position.{Position}
use Rattle.msg_attributes.specs.Told.{told}
use Rattle.msg_positions.specs.Positions.{w_position, list_upload, dec_upload, enc_upload, upload_tested}
use Rattle.msg_positions.specs.PositionLaws.{write_again}

abbrev pub stepped : Outcome × Option Position → List ℕ → Result ℕ Fault × (List ℕ × List ℕ)
stepped x out = ((told x.0 out).0, (enc_upload x.1, (told x.0 out).1))

-- the 8 bytes are written whole
pub put_whole : (l : List ℕ) (up : Option Position) → length l ≡ 8 → put_fields w_position l 0 (list_upload up) ≡ enc_upload up
unfolding sum enc_upload
put_whole l up h =
    let n : length (enc_fields w_position (list_upload up)) ≡ 8 = length_enc_fields w_position (list_upload up) tt in
    put_fields_eq w_position l 0 (list_upload up)
    ∙ sets-eq (enc_fields w_position (list_upload up)) l 0 (omega arith)
    ∙ ap (λ (x : List ℕ). (take 0 l ++ enc_fields w_position (list_upload up)) ++ x) (drop_of_length-le l {i = 0 + length (enc_fields w_position (list_upload up))} (omega arith))
    ∙ append-nil (enc_fields w_position (list_upload up))

-- a step that leaves the upload leaves the bytes of a position that passes its test
pub kept_whole : (limit : ℕ) (eds : Option ℕ) (l : List ℕ) (up : Option Position) → Bytes l → upload_tested limit eds l ≡ true → up ≡ dec_upload l
    → enc_upload up ≡ l
kept_whole limit eds l up b t e = ap enc_upload e ∙ write_again limit eds l b t
