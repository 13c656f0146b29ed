-- What the frame writer leaves, case by case.
use Rattle.std.specs.Prelude.{Some, None}
use Prim.Native.Nat.{ℕ, ◌+◌, ◌<◌, ◌≤◌}
use mathlib.Core.Path.{◌≡◌, sym, ap, ap₂, ◌∙◌}
use mathlib.Core.List.{List, ◌++◌, append_assoc}
use lib.ListN.{length, length-append}
use lib.Seq.{sets}
use native.Mathlib.Omega.{arith}
use borrow.Author.Tests.{le-leb, lt-leb}
use Rattle.base_cells.specs.Numbers.{length_le_bytes, sets_append}
use Rattle.base_cells.specs.Records.{enc_fields, put_fields, put_fields_eq, length_enc_fields, sum}
use Rattle.base_cells.specs.Writes.{written_all, written_none}
use Rattle.wire_rules.specs.Frames.{io_frame}
use Rattle.wire_rules.specs.Writing.{frame_written, frame_appended}
use Rattle.wire_rules.specs.Writing.{front_widths, front_values}

module _ (id sequence cip : ℕ) (bs : List ℕ) where
  -- the numbers before the data, then the data
  pub frame_split : io_frame id sequence cip bs ≡ enc_fields front_widths (front_values id sequence cip (2 + length bs)) ++ bs
  unfolding io_frame enc_fields
  frame_split = simp (append_assoc, length-append, length_le_bytes)

  front_length : length (enc_fields front_widths (front_values id sequence cip (2 + length bs))) ≡ 20
  unfolding sum
  front_length = length_enc_fields front_widths (front_values id sequence cip (2 + length bs)) tt

  pub frame_length : length (io_frame id sequence cip bs) ≡ 20 + length bs
  frame_length = ap length frame_split ∙ length-append (enc_fields front_widths (front_values id sequence cip (2 + length bs))) bs ∙ ap (λ (n : ℕ). n + length bs) front_length

  module _ (out : List ℕ) where
    pub too_long : 65533 < length bs → (None, out) ≡ frame_written out id sequence cip bs
    unfolding frame_written
    too_long h = let g : 65535 < 2 + length bs = omega arith in simp (lt-leb _ _ g)

    pub no_room : length bs ≤ 65533 → length out < 20 + length bs → (None, out) ≡ frame_written out id sequence cip bs
    unfolding frame_written
    no_room h r =
        let g : 2 + length bs ≤ 65535 = omega arith in
        simp (le-leb _ _ g) (sym (written_none out (io_frame id sequence cip bs) (omega (arith, frame_length))))

    pub all_written : (n : ℕ) (x y : List ℕ) → n ≡ length bs → length bs ≤ 65533 → 20 + length bs ≤ length out
        → x ≡ put_fields front_widths out 0 (front_values id sequence cip (2 + n)) → y ≡ sets x 20 bs
        → (Some (20 + n), y) ≡ frame_written out id sequence cip bs
    unfolding frame_written
    all_written n x y e h r ex ey =
        let g : 2 + length bs ≤ 65535 = omega arith in
        let f : List ℕ = enc_fields front_widths (front_values id sequence cip (2 + length bs)) in
        let fx : x ≡ sets out 0 f = ex ∙ put_fields_eq front_widths out 0 (front_values id sequence cip (2 + n)) ∙ ap (λ (m : ℕ). sets out 0 (enc_fields front_widths (front_values id sequence cip (2 + m)))) e in
        let b : 20 + n ≡ length (io_frame id sequence cip bs) = ap (λ (m : ℕ). 20 + m) e ∙ sym frame_length in
        let z : 20 ≡ 0 + length f = omega (arith, front_length) in
        let w : y ≡ sets out 0 (io_frame id sequence cip bs) =
        ey ∙ ap (λ (z : List ℕ). sets z 20 bs) fx ∙ ap (λ (m : ℕ). sets (sets out 0 f) m bs) z
        ∙ sym (sets_append out 0 f bs) ∙ ap (sets out 0) (sym frame_split) in
        simp (le-leb _ _ g) (ap₂ (λ (m : ℕ) (z : List ℕ). (Some m, z)) b w ∙ sym (written_all out (io_frame id sequence cip bs) (omega (arith, frame_length))))

-- ---- behind what the output holds already

module _ (id sequence cip at : ℕ) (bs out : List ℕ) where
  pub past_end : length out < at → (None, out) ≡ frame_appended out at id sequence cip bs
  unfolding frame_appended
  past_end h = simp (lt-leb _ _ h)
