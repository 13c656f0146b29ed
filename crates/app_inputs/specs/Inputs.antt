-- An input, as code fills it.
use Rattle.std.specs.Prelude.{ℕ, ◌+◌, ◌*◌, ◌-◌, ◌≤◌, ◌<◌, Bool, true, cond, List, ◌++◌, ◌≡◌, length, replicate, Option, Some, None}
use Rattle.std.proofs.Common.{ap, sym, ◌∙◌, arith, length-append, le-leb}
use Rattle.std.proofs.lemmas.List.{length-replicate}
use Rattle.std.proofs.lemmas.List.Edits.{sets}
use Rattle.std.proofs.lemmas.Bool.{lt-leb}
use Rattle.base_cells.specs.Numbers.{sets_append}
use Rattle.base_cells.specs.Back.{Bytes}
use Rattle.rules.specs.State.{Content, no_content, shape_at, with_contents}
use Rattle.rules.specs.Answers.{Done, Refused, settled}
use Rattle.rules.specs.Checks.{place_of}
use Rattle.rules.specs.Host.{filled, set_input_at, input_set, set_input_answer, set_input_effect, set_input_call, kind_test}
use Rattle.state_rules.specs.Setups.{shape_in, setup_of}
use Rattle.state_rules.specs.Places.{data_from, assemblies_of}
use Rattle.state_rules.specs.Image.{view, store, tested}
use Rattle.state_image.specs.Holds.{Holds, holds_tested}
use Rattle.state_image.specs.Changes.{bytes_as, bytes_put}
use Rattle.state_image.specs.Lift.{lifted}
use Rattle.app_answers.specs.Places.{input_set_at}
use Rattle.app_answers.specs.Ways.{left_done, left_no, left_same}
use Rattle.state_searches.specs.Searches.{change_at_place}
use Rattle.app_answers.specs.Assemblies.{in_contents, size_is, setup_size_lem}
use Rattle.rules.specs.declared.No.TheVariants.{NoAssembly, TooLong}

module _ (s : List ℕ) (t : tested s ≡ true) (b : Bytes s) (i : ℕ) (p : i < assemblies_of s) where
  abbrev h : Holds s (view s) s
  h = holds_tested s t b

  -- ---- set_input

  module _ (d : List ℕ) (n : ℕ) (en : n ≡ (shape_in s i).size) where
    pub input_long : n < length d → (7, s) ≡ lifted (input_set_at i d) s
    input_long g =
        let m = (setup_size_lem s t b i p) in
        left_no s t (input_set_at i d) b TooLong
        (ap (λ (x : Bool). settled (cond x Done (Refused TooLong)) (input_set d (view s) (Some i)) (view s)) (lt-leb (length d) (shape_at (view s).setup i).size (omega arith)))

    pub input_set_lem : length d ≤ n → (s₁ s₂ : List ℕ) → s₁ ≡ sets s (data_from + i * 512) d → s₂ ≡ sets s₁ (data_from + i * 512 + length d) (replicate (n - length d) 0)
        → (0, s₂) ≡ lifted (input_set_at i d) s
    input_set_lem g s₁ s₂ e₁ e₂ =
        let m = (setup_size_lem s t b i p) in
        let q = (size_is s t b i p) in
        let zs : List ℕ = replicate (n - length d) 0 in
        let lz : length (d ++ zs) ≡ n = length-append d zs ∙ ap (λ (k : ℕ). length d + k) (length-replicate {A = ℕ} (n - length d) 0) ∙ omega arith in
        let left : store (bytes_as i (d ++ zs) (view s)) s ≡ store (input_set d (view s) (Some i)) s =
        ap (λ (k : ℕ). store (bytes_as i (d ++ replicate (k - length d) 0) (view s)) s) (en ∙ sym m)
        ∙ ap (λ (z : List Content). store (with_contents z (view s)) s) (sym (change_at_place (filled (shape_at (view s).setup i).size d) no_content (view s).contents i)) in
        left_done s t (input_set_at i d) s₂ (input_set d (view s) (Some i))
        (ap (λ (x : Bool). settled (cond x Done (Refused TooLong)) (input_set d (view s) (Some i)) (view s)) (le-leb (length d) (shape_at (view s).setup i).size (omega arith)))
        (e₂ ∙ ap (λ (z : List ℕ). sets z (data_from + i * 512 + length d) zs) e₁ ∙ sym (sets_append s (data_from + i * 512) d zs)
        ∙ bytes_put s (view s) s h i (d ++ zs) (in_contents s t b i p) (omega arith) ∙ left)

-- ---- the call, by the place that was found

module _ (s d : List ℕ) (t : tested s ≡ true) (n : ℕ) (o : Option ℕ) (e : place_of (kind_test 1) (setup_of s) n ≡ o) where
  pub input_none : Bytes s → o ≡ None → (6, s) ≡ lifted (set_input_call n d) s
  unfolding set_input_call set_input_answer set_input_effect view
  input_none b q =
      left_no s t (set_input_call n d) b NoAssembly
      (ap (λ (z : Option ℕ). settled (set_input_at (view s).setup d z) (input_set d (view s) z) (view s)) (e ∙ q))

  pub input_some : (i : ℕ) → o ≡ Some i → (r : ℕ × List ℕ) → r ≡ lifted (input_set_at i d) s → r ≡ lifted (set_input_call n d) s
  unfolding set_input_call set_input_answer set_input_effect view
  input_some i q r w =
      w ∙ left_same s t (input_set_at i d) (set_input_call n d)
      (ap (λ (z : Option ℕ). settled (set_input_at (view s).setup d z) (input_set d (view s) z) (view s)) (sym (e ∙ q)))
