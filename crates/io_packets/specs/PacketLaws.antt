-- One connection and its packet: one law for each way out.
use Prim.Native.Nat.{ℕ, ◌+◌, ◌*◌, ◌-◌, ◌%◌, ◌≤◌, ◌<◌}
use Rattle.std.proofs.Math.Bool.{true}
use mathlib.Core.List.{List, [], ◌∷◌, ◌++◌}
use Rattle.std.specs.Prelude.{◌≡◌, Option, Some, None}
use Rattle.std.proofs.Math.Path.{ap, sym}
use Rattle.std.proofs.Common.{◌∙◌, take-append-drop}
use native.Mathlib.Omega.{arith}
use borrow.Author.Tests.{le-leb, lt-leb, leb-true}
use Rattle.std.proofs.Math.Dec.{leb}
use Rattle.std.proofs.Math.ListN.{length, take, drop, length-append, length-drop, get_or-eq_default}
use Rattle.std.proofs.Math.Seq.{sets, length-sets, length-take-le}
use Rattle.base_cells.specs.Pick.{pick}
use Rattle.base_cells.specs.Numbers.{le, put, le_bytes, sets_append}
use Rattle.base_cells.specs.BigEndian.{bytes_be, put_be, length_bytes_be}
use Rattle.base_cells.specs.Writes.{written, written_all}
use Rattle.base_cells.specs.Records.{of_bool}
use Rattle.base_tables.specs.Store.{sets_right}
use Rattle.wire_rules.specs.Writing.{frame_written, behind, frame_appended}
use Rattle.wire_frames.proofs.WriteLaws.{frame_length}
use Rattle.rules.specs.State.{Content, content_at, no_content, Shape}
use Rattle.rules.specs.Producing.{due_by, next_time, next_due}
use Rattle.rules.specs.declared.Fixed.{Fixed}
use Rattle.rules.specs.declared.Sent.{Sent}
use Rattle.state_rules.specs.Setups.{shape_in}
use Rattle.state_rules.specs.Rows.{of_due}
use Rattle.state_rules.specs.Places.{data_from, assemblies_of}
use Rattle.state_image.specs.Holds.{assemblies_held, shape_held, bytes_held}
use Rattle.io_packets.specs.Steps.{stepped, head, frame_bytes, packet_of, Data}

-- ---- due times

module _ (t rpi v : ℕ) where
  pub next_late : v + rpi ≤ t → t + rpi ≡ next_time t rpi v
  next_late h = rw (le-leb (v + rpi) t h)

  pub next_old : t < v + rpi → v + rpi ≡ next_time t rpi v
  next_old h = rw (lt-leb (v + rpi) t h)

pub due_before : (t v : ℕ) (d : Option ℕ) → d ≡ Some v → due_by t d ≡ true → v ≤ t
due_before t v d e h = leb-true v t (ap (due_by t) (sym e) ∙ h)

pub at_due : (t v : ℕ) (d : Option ℕ) → d ≡ Some v → leb v t ≡ due_by t d
at_due t v d e = sym (ap (due_by t) e)

-- ---- the head and the frame behind it

module _ (a p m l n : ℕ) where
  pub length_head : length (head a p m l n) ≡ 13
  unfolding head
  length_head =
      let e₁ = length_bytes_be 4 a in let e₂ = length_bytes_be 2 p in let e₃ = length_bytes_be 1 m in let e₄ = length_bytes_be 4 l in let e₅ = length_bytes_be 2 n in
      let h₂ = length-append (bytes_be 4 a) (bytes_be 2 p) in
      let h₃ = length-append (bytes_be 4 a ++ bytes_be 2 p) (bytes_be 1 m) in
      let h₄ = length-append (bytes_be 4 a ++ bytes_be 2 p ++ bytes_be 1 m) (bytes_be 4 l) in
      let h₅ = length-append (bytes_be 4 a ++ bytes_be 2 p ++ bytes_be 1 m ++ bytes_be 4 l) (bytes_be 2 n) in
      omega arith

  pub head_put : (o o₁ o₂ o₃ o₄ o₅ : List ℕ) → o₁ ≡ put_be 4 o 0 a → o₂ ≡ put_be 2 o₁ 4 p → o₃ ≡ put 1 o₂ 6 m → o₄ ≡ put_be 4 o₃ 7 l → o₅ ≡ put_be 2 o₄ 11 n
      → o₅ ≡ sets o 0 (head a p m l n)
  unfolding head put_be put bytes_be le_bytes
  head_put o o₁ o₂ o₃ o₄ o₅ e₁ e₂ e₃ e₄ e₅ =
      e₅ ∙ ap (λ (z : List ℕ). sets z 11 (bytes_be 2 n)) (e₄ ∙ ap (λ (z : List ℕ). sets z 7 (bytes_be 4 l))
      (e₃ ∙ ap (λ (z : List ℕ). sets z 6 (m ∷ [])) (e₂ ∙ ap (λ (z : List ℕ). sets z 4 (bytes_be 2 p)) e₁)))

module _ (f : Fixed) (x : Sent) (d : List ℕ) where
  frame_long : length (frame_bytes f x d) ≡ 20 + length d
  frame_long = frame_length f.toid.0 x.sequence x.cip d

  pub length_packet : length (packet_of f x d) ≡ 33 + length d
  unfolding packet_of
  length_packet =
      let n : ℕ = length (frame_bytes f x d) in
      let h : List ℕ = head f.dest.address f.dest.port (of_bool f.multicast) f.local n in
      let e = length_head f.dest.address f.dest.port (of_bool f.multicast) f.local n in
      let g = frame_long in
      length-append h (frame_bytes f x d) ∙ omega arith

  -- the frame writer's output behind 13 bytes, where there is room
  appended_is : (o : List ℕ) → length d ≤ 512 → 33 + length d ≤ length o → (frame_appended o 13 f.toid.0 x.sequence x.cip d).1 ≡ sets o 13 (frame_bytes f x d)
  unfolding frame_appended frame_written
  appended_is o p q =
      let fr : List ℕ = frame_bytes f x d in
      let g = frame_long in
      let m : length (drop 13 o) ≡ length o - 13 = length-drop 13 o in
      let t : length (take 13 o) ≡ 13 = length-take-le 13 o (omega arith) in
      let a : leb 13 (length o) ≡ true = le-leb 13 (length o) (omega arith) in
      let b : leb (2 + length d) 65535 ≡ true = le-leb (2 + length d) 65535 (omega arith) in
      let w : written (drop 13 o) fr ≡ (Some (length fr), sets (drop 13 o) 0 fr) = written_all (drop 13 o) fr (omega arith) in
      (λ j. (pick (a j) (behind (take 13 o) (pick (b j) (written (drop 13 o) fr) (None, drop 13 o))) (None, o)).1)
      ∙ ap (λ (z : Option ℕ × List ℕ). take 13 o ++ z.1) w
      ∙ sym (sets_right (take 13 o) (drop 13 o) 13 t 0 fr)
      ∙ ap (λ (z : List ℕ). sets z 13 fr) (take-append-drop 13 o)

  pub packet_put : (o o₁ o₂ : List ℕ) (n : ℕ) (r : Option ℕ) → length d ≤ 512 → 33 + length d ≤ length o → n ≡ 20 + length d
      → o₁ ≡ sets o 0 (head f.dest.address f.dest.port (of_bool f.multicast) f.local n)
      → (r, o₂) ≡ frame_appended o₁ 13 f.toid.0 x.sequence x.cip d → o₂ ≡ sets o 0 (packet_of f x d)
  unfolding packet_of
  packet_put o o₁ o₂ n r p q en e₁ e₂ =
      let fr : List ℕ = frame_bytes f x d in
      let h : List ℕ = head f.dest.address f.dest.port (of_bool f.multicast) f.local (length fr) in
      let w : n ≡ length fr = en ∙ sym frame_long in
      let k : o₁ ≡ sets o 0 h = e₁ ∙ ap (λ (m : ℕ). sets o 0 (head f.dest.address f.dest.port (of_bool f.multicast) f.local m)) w in
      let lo : length o₁ ≡ length o = ap length k ∙ length-sets o 0 h in
      let lh : 13 ≡ 0 + length h = let z = length_head f.dest.address f.dest.port (of_bool f.multicast) f.local (length fr) in omega arith in
      ap (λ (z : Option ℕ × List ℕ). z.1) e₂
      ∙ appended_is o₁ p (omega arith)
      ∙ ap (λ (z : List ℕ). sets z 13 fr) k
      ∙ ap (λ (m : ℕ). sets (sets o 0 h) m fr) lh
      ∙ sym (sets_append o 0 h fr)

-- ---- the data

module _ (s : List ℕ) (i n : ℕ) (en : n ≡ assemblies_of s) where
  pub data_none : n ≤ i → Data i s 0 0
  data_none p st l h =
      let a = assemblies_held s st l h in
      ap (λ (z : Content). z.bytes) (sym (get_or-eq_default st.contents no_content {n = i} (omega arith)))

  pub data_some : i < n → (v : ℕ) → v ≡ (shape_in s i).size → Data i s (data_from + i * 512) v
  data_some p v ev st l h =
      let a = assemblies_held s st l h in
      let e : v ≡ length (content_at st i).bytes = ev ∙ ap (λ (z : Shape). z.size) (shape_held s st l h i (omega arith)) ∙ sym (h.suits.fits.sized i) in
      ap (λ (k : ℕ). take k (drop (data_from + i * 512) s)) e ∙ bytes_held s st l h i (omega arith)

-- ---- a step

pub next_at : (t rpi v : ℕ) (d : Option ℕ) (n : ℕ) → d ≡ Some v → n ≡ next_time t rpi v → n < 18446744073709551615
    → (Some n ≡ next_due t rpi d) × (of_due (Some n) < 18446744073709551616)
next_at t rpi v d n e q b = (ap Some q ∙ sym (ap (next_due t rpi) e), omega arith)

pub step_is : (t rpi : ℕ) (x : Sent) (d : Option ℕ) → d ≡ next_due t rpi x.due
    → record { sequence = (x.sequence + 1) % 4294967296; cip = (x.cip + 1) % 65536; due = d } ≡ stepped t rpi x
unfolding stepped
step_is t rpi x d e = λ j. record { sequence = (x.sequence + 1) % 4294967296; cip = (x.cip + 1) % 65536; due = e j }
