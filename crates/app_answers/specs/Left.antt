-- The state test accepts what each of these calls leaves.
use Rattle.std.specs.Prelude.{ℕ, ◌+◌, ◌-◌, ◌≤◌, Bool, true, false, cond, List, ◌++◌, ◌≡◌, refl, leb, length, replicate, Option, Some, None}
use Rattle.std.proofs.Common.{ap, sym, ◌∙◌, subst, arith, length-append, leb-true}
use Rattle.std.proofs.lemmas.List.{length-replicate}
use Rattle.std.proofs.Math.ListN.{length-drop}
use Rattle.base_tables.specs.Ring.{by_cases}
use Rattle.rules.specs.Lists.{change_at}
use Rattle.rules.specs.State.{Content, no_content, State, shape_at, content_at, with_contents}
use Rattle.rules.specs.Answers.{Answer, is_yes, settled}
use Rattle.rules.specs.Events.{oldest_gone}
use Rattle.rules.specs.Checks.{place_of}
use Rattle.rules.specs.Host.{filled, set_input_at, input_set, set_input_answer, set_input_effect, set_input_call, read, output_read, output_answer, output_effect, output_call, next_event_effect, next_event_answer, next_event_call}
use Rattle.rules.specs.State.{is_input, is_output}
use Rattle.state_rules.specs.Image.{view, tested}
use Rattle.state_image.specs.Fits.{Suits}
use Rattle.state_image.specs.ViewLaws.{suits_view}
use Rattle.state_image.specs.Passes.{tested_store}
use Rattle.state_image.specs.Kept.{suits_content, suits_events, records_drop}
use Rattle.state_image.specs.Lift.{lifted, lifted_out, lifted_tested}
use Rattle.state_searches.specs.Searches.{change_at_place}

either_suits : (b : Bool) (l : List ℕ) (x y : State) → Suits x l → Suits y l → Suits (cond b x y) l
either_suits true l x y p q = p
either_suits false l x y p q = q

pub out_tested : (call : ℕ → State → Answer × State) (l out : List ℕ) → tested l ≡ true → Suits (call (length out) (view l)).1 l
    → tested (lifted_out call l out).1.0 ≡ true
unfolding lifted_out
out_tested call l out t w = rw t (tested_store (call (length out) (view l)).1 l w)

module _ (l : List ℕ) (t : tested l ≡ true) where
  abbrev w : Suits (view l) l
  w = suits_view l t

  changed_suits : (i : ℕ) (u : Content → Content) → length (u (content_at (view l) i)).bytes ≡ length (content_at (view l) i).bytes
      → Suits (with_contents (change_at i u (view l).contents) (view l)) l
  changed_suits i u e =
      subst (λ (z : List Content). Suits (with_contents z (view l)) l) (sym (change_at_place u no_content (view l).contents i)) (suits_content (view l) l w i (u (content_at (view l) i)) e)

  filled_suits : (bytes : List ℕ) (o : Option ℕ) → Suits (settled (set_input_at (view l).setup bytes o) (input_set bytes (view l) o) (view l)).1 l
  filled_suits bytes None = w
  filled_suits bytes (Some i) =
      let n : ℕ = (shape_at (view l).setup i).size in
      by_cases (leb (length bytes) n)
      (λ e. let h : length bytes ≤ n = leb-true (length bytes) n e in
      let z = w.fits.sized i in
      let k : length (bytes ++ replicate (n - length bytes) 0) ≡ length (content_at (view l) i).bytes =
      length-append bytes (replicate (n - length bytes) 0) ∙ ap (λ (m : ℕ). length bytes + m) (length-replicate {A = ℕ} (n - length bytes) 0) ∙ omega arith in
      rw e (changed_suits i (filled n bytes) k))
      (λ e. rw e w)

  pub input_suits : (n : ℕ) (bytes : List ℕ) → Suits (set_input_call n bytes (view l)).1 l
  unfolding set_input_call set_input_answer set_input_effect
  input_suits n bytes = filled_suits bytes (place_of is_input (view l).setup n)

  pub input_tested : (n : ℕ) (bytes : List ℕ) → tested (lifted (set_input_call n bytes) l).1 ≡ true
  input_tested n bytes = lifted_tested (set_input_call n bytes) l t (input_suits n bytes)

  read_suits : (o : Option ℕ) → Suits (output_read (view l) o) l
  read_suits None = w
  read_suits (Some i) = changed_suits i read refl

  pub output_suits : (n room : ℕ) → Suits (output_call n room (view l)).1 l
  unfolding output_call output_effect
  output_suits n room = either_suits (is_yes (output_answer n room (view l))) l (output_effect n (view l)) (view l) (read_suits (place_of is_output (view l).setup n)) w

  pub output_tested : (n : ℕ) (out : List ℕ) → tested (lifted_out (output_call n) l out).1.0 ≡ true
  output_tested n out = out_tested (output_call n) l out t (output_suits n (length out))

  gone_suits : Suits (next_event_effect (view l)) l
  unfolding next_event_effect oldest_gone
  gone_suits =
      let f = w.fits in
      suits_events (view l) l w (oldest_gone (view l).events) (omega arith)
      (let a = f.waiting in let b = length-drop 1 (view l).events.waiting in omega arith) (records_drop (view l).events.waiting f.records)

  pub event_suits : (room : ℕ) → Suits (next_event_call room (view l)).1 l
  unfolding next_event_call
  event_suits room = either_suits (is_yes (next_event_answer room (view l))) l (next_event_effect (view l)) (view l) gone_suits w

  pub event_tested : (out : List ℕ) → tested (lifted_out next_event_call l out).1.0 ≡ true
  event_tested out = out_tested next_event_call l out t (event_suits (length out))
