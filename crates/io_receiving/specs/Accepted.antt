-- The state test accepts what receive leaves.
use Prim.Native.Nat.{ℕ, ◌+◌}
use Rattle.std.specs.Prelude.{true, not, ◌&&◌, ◌≡◌, refl, eqb, ltb, Option, Some, None}
use mathlib.Core.List.{List, [], ◌∷◌}
use Rattle.std.proofs.Common.{◌∙◌, arith, length-drop}
use Rattle.std.proofs.Math.ListN.{length}
use Rattle.rules.specs.Lists.{maybe, find, change_first}
use Rattle.rules_laws.specs.ListLaws.{by_cases, either_way, and_right, eqb_true, length_change}
use Rattle.rules.specs.State.{Content, State, no_content, shape_at, content_at, with_contents, with_events}
use Rattle.rules.specs.Events.{pushed, pushed_all}
use Rattle.rules.specs.Answers.{is_yes}
use Rattle.rules.specs.Receiving.{Frame, meant_for, hear, newer, has_cip, repeats, right_size, taken, changes, deliver, delivered, output_events, received, frame_of, receive_answer, receive_effect, receive_call}
use Rattle.rules.specs.declared.Conn.{Conn}
use Rattle.rules.specs.declared.Event.{Event}
use Rattle.wire_rules.specs.Frames.{io_of}
use Rattle.state_rules.specs.Image.{view, store, tested}
use Rattle.state_image.specs.RowsFit.{fits_change}
use Rattle.state_image.specs.Fits.{Suits}
use Rattle.state_image.specs.ViewLaws.{suits_view}
use Rattle.state_image.specs.Passes.{tested_store}
use Rattle.state_image.specs.Kept.{suits_table, suits_content}
use Rattle.state_searches.specs.Searches.{change_at_place}
use Rattle.state_events.specs.Pushes.{suits_told}

-- data that is taken has the output's size
taken_size : (st : State) (f : Frame) (c : Conn) → taken st.setup f c ≡ true → length f.payload ≡ (shape_at st.setup c.fixed.output).size + 6
unfolding taken
taken_size st f c e =
    let r = and_right (newer c.heard f.sequence && has_cip f c && not (repeats f c.heard)) (right_size st.setup f c.fixed) e in
    eqb_true (length f.payload) ((shape_at st.setup c.fixed.output).size + 6) (and_right (ltb c.fixed.output (length st.setup.assemblies)) (eqb (length f.payload) ((shape_at st.setup c.fixed.output).size + 6)) r)

-- a frame changes nothing of a row that never changes
hear_fixed : (t : ℕ) (f : Frame) (c : Conn) → (hear t f c).fixed ≡ c.fixed
unfolding hear
hear_fixed t f c = either_way (λ (x : Conn). x.fixed ≡ c.fixed) (newer c.heard f.sequence) refl refl

module _ (l : List ℕ) where
  suits_delivered : (f : Frame) (c : Conn) (st : State) → Suits st l → Suits (with_contents (delivered st.setup f c st.contents) st) l
  unfolding deliver
  suits_delivered f c st w =
      let o : ℕ = c.fixed.output in
      let a : Content = content_at st o in
      by_cases (taken st.setup f c)
      (λ e.
      let n : length (deliver f a).bytes ≡ length a.bytes =
      by_cases (changes f a)
      (λ x. rw x (length-drop 6 f.payload ∙ (let y = taken_size st f c e in let z = w.fits.sized o in omega arith)))
      (λ x. rw x) in
      rw (e, change_at_place (deliver f) no_content st.contents o) (suits_content st l w o (deliver f a) n))
      (λ e. rw e w)

  suits_one : (es : List Event) (st : State) → Suits st l → Suits (with_events (pushed_all es st.events) st) l
  unfolding pushed_all
  suits_one [] st w = w
  suits_one (e ∷ es) st w = suits_one es (with_events (pushed e st.events) st) (suits_told st l e w)

  suits_received : (t from : ℕ) (f : Frame) (st : State) → Suits st l → Suits (received t from f st) l
  unfolding received
  suits_received t from f st w =
      let cs : List Conn = change_first (meant_for from f) (hear t f) st.table in
      let n = length_change (meant_for from f) (hear t f) st.table in
      let m = w.fits.table in
      let parts = go (find (meant_for from f) st.table) in
      suits_table _ l parts cs (omega arith) (fits_change (meant_for from f) (hear t f) (hear_fixed t f) st.table w.fits.rows)
    where
      go : (to : Option Conn) → Suits (with_events (pushed_all (maybe [] (λ c. output_events st.setup f c st.contents) to) st.events) (with_contents (maybe st.contents (λ c. delivered st.setup f c st.contents) to) st)) l
      go None = suits_one [] st w
      go (Some c) = suits_one (output_events st.setup f c st.contents) (with_contents (delivered st.setup f c st.contents) st) (suits_delivered f c st w)

  suits_effect : (t from : ℕ) (bytes : List ℕ) (st : State) → Suits st l → Suits (receive_effect t from bytes st) l
  unfolding receive_effect
  suits_effect t from bytes st w = go (frame_of bytes (io_of bytes))
    where
      go : (o : Option Frame) → Suits (maybe st (λ f. received t from f st) o) l
      go None = w
      go (Some f) = suits_received t from f st w

  pub receive_suits : tested l ≡ true → (t from : ℕ) (bytes : List ℕ) → Suits (receive_call t from bytes (view l)).1 l
  unfolding receive_call
  receive_suits ok t from bytes =
      either_way (λ (z : State). Suits z l) (is_yes (receive_answer t)) {x = receive_effect t from bytes (view l)} {y = view l} (suits_effect t from bytes (view l) (suits_view l ok)) (suits_view l ok)

  pub receive_accepted : tested l ≡ true → (t from : ℕ) (bytes : List ℕ) → tested (store (receive_call t from bytes (view l)).1 l) ≡ true
  receive_accepted ok t from bytes = tested_store (receive_call t from bytes (view l)).1 l (receive_suits ok t from bytes)
