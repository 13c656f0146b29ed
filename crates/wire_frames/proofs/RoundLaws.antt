-- A frame that was written is read again.
use Rattle.std.specs.Prelude.{Option, Some, None}
use Prim.Native.Nat.{ℕ, ◌+◌, ◌<◌, ◌≤◌}
use mathlib.Core.Path.{◌≡◌, refl, sym, ap, ap₂, ◌∙◌}
use mathlib.Core.List.{List, [], ◌∷◌, ◌++◌, append_assoc}
use lib.ListN.{length, take, drop, get_or, length-append, length-drop, take-append-drop}
use lib.Seq.{sets, take_all, drop_at}
use native.Mathlib.Omega.{arith}
use native.Mathlib.Nat.{add-zero}
use native.Mathlib.Decide.{dec_le}
use borrow.Author.Tests.{le-leb}
use Rattle.base_cells.specs.Numbers.{le, le_bytes, length_le_bytes, slice_sets, take_sets, drop_sets_add}
use Rattle.base_cells.specs.Records.{sum, enc_fields, dec_fields, dec_enc, length_enc_fields}
use Rattle.base_cells.specs.Writes.{written_all}
use Rattle.wire_rules.specs.Frames.{ot_id, io_of, io_frame}
use Rattle.wire_rules.specs.Writing.{frame_written, behind, frame_appended}
use Rattle.wire_items.specs.Head.{Head}
use Rattle.wire_rules.specs.Writing.{front_widths, front_values}
use Rattle.wire_rules.specs.declared.IoFrame.TheVariants.{Io}
use Rattle.wire_items.proofs.ItemLaws.{ends, step_end}
use Rattle.wire_items.proofs.IoLaws.{is_io}
use Rattle.wire_frames.proofs.WriteLaws.{frame_split, frame_length, no_room, too_long, past_end}

module _ (id sequence cip : ℕ) (bs : List ℕ) where
  abbrev s : List ℕ
  s = io_frame id sequence cip bs

  numbers : dec_fields front_widths s 0 ≡ front_values id sequence cip (2 + length bs)
  numbers =
      ap (λ (l : List ℕ). dec_fields front_widths l 0) (frame_split id sequence cip bs)
      ∙ dec_enc front_widths (front_values id sequence cip (2 + length bs)) tt [] bs 0 refl

  number : (k : ℕ) → get_or (dec_fields front_widths s 0) k 0 ≡ get_or (front_values id sequence cip (2 + length bs)) k 0
  number k = ap (λ (l : List ℕ). get_or l k 0) numbers

  -- the frame writer's frame is the I/O frame of that id and sequence, with the CIP sequence and the data as its payload
  pub round : 20 + length bs ≤ 65536 → io_of s ≡ Io (ot_id id) sequence 18 (2 + length bs)
  round h =
      let n : length s ≡ 20 + length bs = frame_length id sequence cip bs in
      let two : le 2 s 0 ≡ 2 = number 0 in
      let len : le 2 s 16 ≡ 2 + length bs = number 6 in
      let front : Head s = record { long = omega arith; count = omega arith; address = number 1; eight = number 2; payload = number 5 } in
      sym (is_io s front 2 (2 + length bs) (sym two) (sym len) (omega arith) id sequence
      (ends s (18 + (2 + length bs)) 0 (step_end s (18 + (2 + length bs)) 0 refl (omega arith))) (omega arith) (sym (number 3)) (sym (number 4)))

  pub payload : take (2 + length bs) (drop 18 s) ≡ le_bytes 2 cip ++ bs
  unfolding enc_fields sum
  payload =
      let ws : List ℕ = 2 ∷ 2 ∷ 2 ∷ 4 ∷ 4 ∷ 2 ∷ 2 ∷ [] in
      let vs : List ℕ = 2 ∷ 0x8002 ∷ 8 ∷ id ∷ sequence ∷ 0xB1 ∷ (2 + length bs) ∷ [] in
      let split : s ≡ enc_fields ws vs ++ (le_bytes 2 cip ++ bs) = frame_split id sequence cip bs ∙ simp append_assoc in
      let n : length (le_bytes 2 cip ++ bs) ≤ 2 + length bs = rw (length-append, length_le_bytes) (omega arith) in
      ap (λ (l : List ℕ). take (2 + length bs) (drop 18 l)) split
      ∙ ap (take (2 + length bs)) (drop_at (enc_fields ws vs) (le_bytes 2 cip ++ bs) 18 (length_enc_fields ws vs tt))
      ∙ take_all (2 + length bs) (le_bytes 2 cip ++ bs) n

  -- ---- in a longer output, from `at` on

  module _ (out : List ℕ) (at : ℕ) where
    pub appended : length bs ≤ 65533 → at + (20 + length bs) ≤ length out
        → frame_appended out at id sequence cip bs ≡ (Some (20 + length bs), sets out at s)
    unfolding frame_appended frame_written
    appended h r =
        let n : length s ≡ 20 + length bs = frame_length id sequence cip bs in
        let a : at ≤ length out = omega arith in
        let g : 2 + length bs ≤ 65535 = omega arith in
        let w : length s ≤ length (drop at out) = rw length-drop (omega arith) in
        let z : take at out ++ sets (drop at out) 0 s ≡ sets out at s =
        ap₂ ◌++◌ (sym (take_sets at out at s (omega arith))) (sym (drop_sets_add at out 0 s) ∙ ap (λ (m : ℕ). drop at (sets out m s)) (add-zero at))
        ∙ take-append-drop at (sets out at s) in
        simp (le-leb _ _ a, le-leb _ _ g, written_all (drop at out) s w) (ap₂ (λ (m : ℕ) (x : List ℕ). (Some m, x)) n z)

    -- where there is no room, or more data than an item can hold, nothing is written
    none : at ≤ length out → (None, drop at out) ≡ frame_written (drop at out) id sequence cip bs → frame_appended out at id sequence cip bs ≡ (None, out)
    unfolding frame_appended
    none a e = simp (le-leb _ _ a) (ap (behind (take at out)) (sym e) ∙ ap (λ (x : List ℕ). (None, x)) (take-append-drop at out))

    pub refused : length bs ≤ 65533 → length out < at + (20 + length bs) → frame_appended out at id sequence cip bs ≡ (None, out)
    refused h r = go (dec_le at (length out))
      where
        go : Dec (at ≤ length out) → frame_appended out at id sequence cip bs ≡ (None, out)
        go (yes a) = none a (no_room id sequence cip bs (drop at out) h (rw length-drop (omega arith)))
        go (no a) = sym (past_end id sequence cip at bs out (omega arith))

    pub refused_long : 65533 < length bs → frame_appended out at id sequence cip bs ≡ (None, out)
    refused_long h = go (dec_le at (length out))
      where
        go : Dec (at ≤ length out) → frame_appended out at id sequence cip bs ≡ (None, out)
        go (yes a) = none a (too_long id sequence cip bs (drop at out) h)
        go (no a) = sym (past_end id sequence cip at bs out (omega arith))

    pub round_at : 20 + length bs ≤ 65536 → at + (20 + length bs) ≤ length out
        → io_of (take (20 + length bs) (drop at (frame_appended out at id sequence cip bs).1)) ≡ Io (ot_id id) sequence 18 (2 + length bs)
    round_at h r =
        let n : length s ≡ 20 + length bs = frame_length id sequence cip bs in
        ap (λ (w : Option ℕ × List ℕ). io_of (take (20 + length bs) (drop at w.1))) (appended (omega arith) r)
        ∙ ap (λ (m : ℕ). io_of (take m (drop at (sets out at s)))) (sym n)
        ∙ ap io_of (slice_sets out at s (omega arith))
        ∙ round h
