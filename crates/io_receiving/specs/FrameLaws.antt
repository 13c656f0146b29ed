-- A frame's payload lies inside it, and what each kind of frame does.
use Rattle.std.specs.Prelude.{ℕ, zero, suc, ◌+◌, ◌-◌, ◌≤◌, ◌<◌, Bool, true, false, ◌≡◌, refl, eqb, leb, length, drop, Option, None, Result, Ok, Err}
use mathlib.Core.List.{List, [], ◌∷◌}
use Rattle.std.proofs.Math.Path.{ap}
use Rattle.std.proofs.Common.{sym, ◌∙◌, leb-true}
use native.Mathlib.Omega.{arith}
use Rattle.std.proofs.Math.ListN.{take}
use Rattle.base_cells.specs.Pick.{pick}
use Rattle.base_cells.specs.Numbers.{le}
use Rattle.base_tables.specs.Ring.{by_cases}
use Rattle.base_ids.specs.declared.OtId.{OtId}
use Rattle.wire_rules.specs.declared.Cursor.{Cursor}
use Rattle.wire_rules.specs.declared.Step.{Step}
use Rattle.wire_rules.specs.declared.Step.TheVariants.{Item, End, Broken as BrokenStep}
use Rattle.wire_rules.specs.declared.IoFrame.{IoFrame}
use Rattle.wire_rules.specs.declared.IoFrame.TheVariants.{Io, NotIo, Broken}
use Rattle.wire_rules.specs.Items.{Part, Items, well_formed, broken, cursor, item_end, start_of, step_at, cons, follow, items_from, begun, items_of}
use Rattle.wire_rules.specs.Frames.{ot_id, io_pair, first_two, io_of_items, io_of}
use Rattle.rules.specs.Lists.{maybe}
use Rattle.rules.specs.State.{State}
use Rattle.rules.specs.Receiving.{Frame, frame_of, received, receive_effect}
use Rattle.state_rules.specs.Image.{store}
use Rattle.state_image.specs.Holds.{Holds, Becomes}
use Rattle.io_receiving.specs.Steps.{HearsFrom}

-- ---- every item of a well-formed list lies inside the data

abbrev Inside : ℕ → List Part → Type 0
Inside k [] = Unit {0}
Inside k (p ∷ ps) = (p.start + p.len ≤ k) × Inside k ps

abbrev AllInside : ℕ → Items → Type 0
AllInside k (well_formed ps) = Inside k ps
AllInside k (broken o) = Unit {0}

inside_cons : (k : ℕ) (p : Part) → p.start + p.len ≤ k → (is : Items) → AllInside k is → AllInside k (cons p is)
inside_cons k p h (well_formed ps) w = (h, w)
inside_cons k p h (broken o) w = tt

inside_end : (k : ℕ) (b : Bool) (o : ℕ) → AllInside k (follow (pick b End (BrokenStep o)) broken)
inside_end k true o = tt
inside_end k false o = tt

inside_from : (n : ℕ) (s : List ℕ) (at : ℕ) → AllInside (length s) (items_from n s at)
unfolding items_from step_at
inside_from zero s at = inside_end (length s) (eqb at (length s)) at
inside_from (suc n) s at =
    by_cases (leb (item_end s at) (length s))
    (λ t. let h = leb-true (item_end s at) (length s) t in
    rw t (inside_cons (length s) (record { kind = le 2 s at; start = at + 4; len = le 2 s (at + 2) }) h (items_from n s (item_end s at)) (inside_from n s (item_end s at))))
    (λ t. rw t tt)

inside_begun : (s : List ℕ) (b : Result Cursor ℕ) → AllInside (length s) (begun b (λ c. items_from c.left s c.at))
inside_begun s (Ok c) = inside_from c.left s c.at
inside_begun s (Err o) = tt

inside_all : (s : List ℕ) → AllInside (length s) (items_of s)
unfolding items_of
inside_all s = inside_begun s (start_of s)

not_io : {P : Type 0} (id : OtId) (q start len : ℕ) → NotIo ≡ Io id q start len → P
not_io id q start len e = absurd (let z : ◌≡◌ {A = ℕ} 0 1 = cc in omega arith)

io_place : (i i' : OtId) (q q' a a' n n' : ℕ) → Io i q a n ≡ Io i' q' a' n' → (a ≡ a') × (n ≡ n')
io_place i i' q q' a a' n n' e = (let z : a ≡ a' = cc in z, let z : n ≡ n' = cc in z)

inside_pair : (k : ℕ) (b₁ b₂ b₃ : Bool) (i id : OtId) (p q start len a n : ℕ) → a + n ≤ k
    → pick b₁ (pick b₂ (pick b₃ (Io i p a n) NotIo) NotIo) NotIo ≡ Io id q start len → start + len ≤ k
inside_pair k true true true i id p q start len a n h e = let z = io_place i id p q a start n len e in omega arith
inside_pair k true true false i id p q start len a n h e = not_io id q start len e
inside_pair k true false b₃ i id p q start len a n h e = not_io id q start len e
inside_pair k false b₂ b₃ i id p q start len a n h e = not_io id q start len e

inside_two : (s : List ℕ) (ps : List Part) → Inside (length s) ps → (id : OtId) (q start len : ℕ) → first_two s ps ≡ Io id q start len → start + len ≤ length s
inside_two s [] w id q start len e = not_io id q start len e
inside_two s (a ∷ []) w id q start len e = not_io id q start len e
inside_two s (a ∷ (d ∷ ps)) w id q start len e =
    inside_pair (length s) (eqb a.kind 0x8002) (eqb a.len 8) (eqb d.kind 0xB1) (ot_id (le 4 s a.start)) id (le 4 s (a.start + 4)) q start len d.start d.len w.1.0 e

inside_sized : (s : List ℕ) (b : Bool) (ps : List Part) → Inside (length s) ps → (id : OtId) (q start len : ℕ) → pick b (first_two s ps) NotIo ≡ Io id q start len → start + len ≤ length s
inside_sized s true ps w id q start len e = inside_two s ps w id q start len e
inside_sized s false ps w id q start len e = not_io id q start len e

inside_items : (s : List ℕ) (is : Items) → AllInside (length s) is → (id : OtId) (q start len : ℕ) → io_of_items s is ≡ Io id q start len → start + len ≤ length s
inside_items s (well_formed ps) w id q start len e = inside_sized s (leb (length s) 65536) ps w id q start len e
inside_items s (broken o) w id q start len e = absurd (let z : ◌≡◌ {A = ℕ} 0 1 = cc in omega arith)

pub payload_inside : (s : List ℕ) (x : IoFrame) (id : OtId) (q start len : ℕ) → x ≡ io_of s → x ≡ Io id q start len → start + len ≤ length s
unfolding io_of
payload_inside s x id q start len ex e = inside_items s (items_of s) (inside_all s) id q start len (sym ex ∙ e)

-- ---- what a frame does

module _ (s frame : List ℕ) (t from : ℕ) (x : IoFrame) (ex : x ≡ io_of frame) where
  pub receive_none : frame_of frame x ≡ None → Becomes s s (receive_effect t from frame)
  unfolding receive_effect
  receive_none e st l h =
      h.is ∙ ap (λ (z : Option Frame). store (maybe st (λ (f : Frame). received t from f st) z) l) (sym (ap (frame_of frame) (sym ex) ∙ e))

  pub receive_io : (id : OtId) (q start len : ℕ) → x ≡ Io id q start len → (d : List ℕ) → d ≡ take (start + len - start) (drop start frame) → (s₂ : List ℕ)
      → HearsFrom t from id q d s s₂ → Becomes s s₂ (receive_effect t from frame)
  unfolding receive_effect
  receive_io id q start len e d ed s₂ b st l h =
      let k : start + len - start ≡ len = omega arith in
      b st l h
      ∙ ap (λ (z : List ℕ). store (received t from (record { id = id; sequence = q; payload = z }) st) l) (ed ∙ ap (λ (n : ℕ). take n (drop start frame)) k)
      ∙ ap (λ (z : Option Frame). store (maybe st (λ (f : Frame). received t from f st) z) l) (sym (ap (frame_of frame) (sym ex ∙ e)))
