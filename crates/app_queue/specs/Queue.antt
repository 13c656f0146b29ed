-- The oldest event, as code takes it.
use Prim.Native.Nat.{ℕ, zero, suc, ◌+◌, ◌*◌, ◌-◌, ◌%◌, ◌^◌, ◌≤◌, ◌<◌}
use Rattle.std.specs.Prelude.{Bool, true, ◌≡◌, refl, length, drop}
use mathlib.Core.List.{List, [], ◌∷◌}
use Rattle.std.proofs.Math.Path.{ap}
use Rattle.std.proofs.Common.{sym, ◌∙◌, arith, length-drop, drop-drop, take-take, length-take-le}
use Rattle.std.proofs.Math.ListN.{take}
use Rattle.std.proofs.lemmas.List.Edits.{sets}
use mir.Val.{bool_byte}
use Rattle.base_cells.specs.Numbers.{le, put, drop_take}
use Rattle.base_cells.specs.Records.{to_bool}
use Rattle.base_cells.specs.Back.{Bytes}
use Rattle.base_tables.specs.Ring.{ring_of}
use Rattle.rules.specs.State.{State}
use Rattle.rules.specs.Answers.{Answer, Wrote, Refused, settled}
use Rattle.rules.specs.Events.{oldest_gone}
use Rattle.rules.specs.Host.{event_at, next_event_answer, next_event_effect, next_event_call}
use Rattle.state_rules.specs.Places.{ring_in, events_at, events_size, ring_at, first_of, waiting_of, fault_of}
use Rattle.state_rules.specs.Bits.{word_of}
use Rattle.state_rules.specs.Image.{view, tested, record32, as_is}
use Rattle.state_image.specs.Fits.{is_long, first_slot}
use Rattle.state_image.specs.Kept.{byte_of}
use Rattle.state_image.specs.Taken.{taken_stored}
use Rattle.state_image.specs.Lift.{lifted_out}
use Rattle.app_answers.specs.Ways.{fits_in, fits_not, out_wrote, out_no}
use Rattle.rules.specs.declared.No.TheVariants.{NoRoom, NothingThere}

-- a part of a part of a buffer
pub part_of : (n k a m : ℕ) (l : List ℕ) → k + n ≤ m → take n (drop k (take m (drop a l))) ≡ take n (drop (a + k) l)
part_of n k a m l h =
    let e : m ≡ k + (m - k) = omega arith in
    ap (λ (j : ℕ). take n (drop k (take j (drop a l)))) e
    ∙ ap (take n) (drop_take k (m - k) (drop a l))
    ∙ take-take n (m - k) (drop k (drop a l)) (omega arith)
    ∙ ap (take n) (drop-drop k a l)

ring_none : (f n : ℕ) (r : List ℕ) → n < 1 → ring_of 32 record32 as_is f n r ≡ []
unfolding ring_of
ring_none f zero r h = refl
ring_none f (suc n) r h = absurd (omega arith)

ring_first : (f n : ℕ) (r : List ℕ) → 1 ≤ n → ring_of 32 record32 as_is f n r ≡ take 32 (drop (f * 32) r) ∷ ring_of 32 record32 as_is ((f + 1) % 1024) (n - 1) r
unfolding ring_of
ring_first f zero r h = absurd (omega arith)
ring_first f (suc n) r h = ap (λ (k : ℕ). take 32 (drop (f * 32) r) ∷ ring_of 32 record32 as_is ((f + 1) % 1024) k r) (let e : n ≡ suc n - 1 = omega arith in e)

-- what the call comes to, by its answer
after : (room : ℕ) (st : State) (a : Answer) → next_event_answer room st ≡ a → next_event_call room st ≡ settled a (next_event_effect st) st
unfolding next_event_call
after room st a e = ap (λ (x : Answer). settled x (next_event_effect st) st) e

module _ (s out : List ℕ) (t : tested s ≡ true) (b : Bytes s) where
  length_oldest : length (take 32 (drop (events_at + first_of s * 32) s)) ≡ 32
  length_oldest =
      let n = is_long s t in let f = first_slot s t in
      length-take-le 32 (drop (events_at + first_of s * 32) s) (rw (length-drop (events_at + first_of s * 32) s) (omega arith))

  in_ring : take 32 (drop (first_of s * 32) (ring_in s)) ≡ take 32 (drop (events_at + first_of s * 32) s)
  in_ring = let f = first_slot s t in part_of 32 (first_of s * 32) events_at events_size s (omega arith)

  first_is : 1 ≤ waiting_of s → (room : ℕ) → next_event_answer room (view s) ≡ event_at room (take 32 (drop (events_at + first_of s * 32) s) ∷ [])
  unfolding next_event_answer view
  first_is h room =
      ap (event_at room) (ring_first (first_of s) (waiting_of s) (ring_in s) h)
      ∙ ap (λ (e : List ℕ). event_at room (e ∷ [])) in_ring

  pub event_none : waiting_of s < 1 → (9, (s, out)) ≡ lifted_out next_event_call s out
  unfolding next_event_answer view
  event_none h =
      out_no s out t next_event_call b NothingThere
      (after (length out) (view s) (Refused NothingThere) (ap (event_at (length out)) (ring_none (first_of s) (waiting_of s) (ring_in s) h)))

  pub event_short : 1 ≤ waiting_of s → length out < 32 → (8, (s, out)) ≡ lifted_out next_event_call s out
  event_short h g =
      let n = length_oldest in
      let d : List ℕ = take 32 (drop (events_at + first_of s * 32) s) in
      out_no s out t next_event_call b NoRoom
      (after (length out) (view s) (Refused NoRoom) (first_is h (length out) ∙ fits_not (length out) d (Wrote d) (omega arith)))

  pub event_taken : 1 ≤ waiting_of s → 32 ≤ length out → (f n : ℕ) (a : Bool) (d o s₁ : List ℕ) → f ≡ first_of s → n ≡ waiting_of s → a ≡ to_bool (fault_of s)
      → d ≡ take 32 (drop (events_at + f * 32) s) → o ≡ sets out 0 d → s₁ ≡ put 4 s ring_at ((n - 1) * 2048 + (f + 1) % 1024 * 2 + bool_byte a)
      → (2 ^ 8 * 32, (s₁, o)) ≡ lifted_out next_event_call s out
  unfolding next_event_effect oldest_gone
  event_taken h g f n a d o s₁ ef en ea ed eo es =
      let x : List ℕ = take 32 (drop (events_at + first_of s * 32) s) in
      let m = length_oldest in
      out_wrote s out t next_event_call 32 s₁ o x (next_event_effect (view s))
      (after (length out) (view s) (Wrote x) (first_is h (length out) ∙ fits_in (length out) x (Wrote x) (omega arith)))
      (sym m)
      (es
      ∙ ap (λ (k : ℕ). put 4 s ring_at ((n - 1) * 2048 + (f + 1) % 1024 * 2 + k)) (byte_of a)
      ∙ (λ i. put 4 s ring_at (word_of (en i - 1) ((ef i + 1) % 1024) (ea i)))
      ∙ taken_stored s t b)
      (eo ∙ ap (sets out 0) (ed ∙ ap (λ (k : ℕ). take 32 (drop (events_at + k * 32) s)) ef))
