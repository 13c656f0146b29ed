-- Outputs and any assembly's data, as code reads them, and an output's mark as code leaves it.
use Rattle.std.specs.Prelude.{ℕ, zero, suc, ◌+◌, ◌*◌, ◌^◌, ◌≤◌, ◌<◌, Bool, true, ◌≡◌, ◌≢◌, refl, length, drop, Option, Some, None}
use Rattle.std.proofs.Math.Bool.{false}
use mathlib.Core.List.{List, [], ◌∷◌}
use Rattle.std.proofs.Math.Path.{ap, sym}
use Rattle.std.proofs.Common.{◌∙◌, arith}
use Rattle.std.proofs.Math.ListN.{take}
use Rattle.std.proofs.Math.Seq.{sets}
use mir.Val.{bool_byte}
use Rattle.base_cells.specs.Numbers.{put, le_bytes, sets_append}
use Rattle.base_cells.specs.Records.{of_bool}
use Rattle.base_cells.specs.Back.{Bytes}
use Rattle.rules.specs.State.{Setup, Shape, Content, no_content, content_at, with_contents}
use Rattle.rules.specs.Lists.{maybe, place}
use Rattle.rules.specs.declared.AssemblyKind.{AssemblyKind}
use Rattle.rules.specs.declared.AssemblyKind.TheVariants.{Input, Output, Config}
use Rattle.state_places.specs.Kinds.{number_of}
use Rattle.rules.specs.Answers.{Answer, Wrote, Refused, settled}
use Rattle.rules.specs.Checks.{is_at, place_of}
use Rattle.rules.specs.Host.{read, output_bytes, output_at, output_read, output_answer, output_effect, output_call, kind_test, assembly_at, assembly_answer}
use Rattle.state_rules.specs.Setups.{shape_in, setup_of}
use Rattle.state_rules.specs.Places.{data_from, mark_at, assemblies_of}
use Rattle.state_rules.specs.Bits.{run_in}
use Rattle.state_rules.specs.Image.{view, store, tested}
use Rattle.state_image.specs.Holds.{Holds, Becomes, holds_tested}
use Rattle.state_image.specs.Kept.{byte_of}
use Rattle.state_image.specs.Changes.{mark_as}
use Rattle.state_image.specs.Lift.{lifted_out, lifted_read}
use Rattle.app_answers.specs.Places.{assembly_read_at, output_read_at}
use Rattle.app_answers.specs.Ways.{fits_in, fits_not, read_wrote, read_no, read_same, out_wrote, out_no, out_same}
use Rattle.state_searches.specs.Searches.{change_at_place}
use Rattle.app_answers.specs.Assemblies.{size_is, data_is, run_is}
use Rattle.rules.specs.declared.No.TheVariants.{NoAssembly, NoRoom}

module _ (s : List ℕ) (t : tested s ≡ true) (b : Bytes s) (i : ℕ) (p : i < assemblies_of s) where
  abbrev h : Holds s (view s) s
  h = holds_tested s t b

  abbrev c : Content
  c = content_at (view s) i

  -- ---- assembly

  module _ (out : List ℕ) (n : ℕ) (en : n ≡ (shape_in s i).size) where
    pub assembly_short : length out < n → (8, out) ≡ lifted_read (assembly_read_at i) s out
    assembly_short g =
        let m = (size_is s t b i p) in
        read_no s out t (assembly_read_at i) NoRoom (fits_not (length out) c.bytes (Wrote c.bytes) (omega arith))

    pub assembly_wrote : n ≤ length out → (d o : List ℕ) → d ≡ take n (drop (data_from + i * 512) s) → o ≡ sets out 0 d
        → (2 ^ 8 * n, o) ≡ lifted_read (assembly_read_at i) s out
    assembly_wrote g d o ed eo =
        let m = (size_is s t b i p) in
        read_wrote s out t (assembly_read_at i) n o c.bytes (fits_in (length out) c.bytes (Wrote c.bytes) (omega arith)) (omega arith)
        (eo ∙ ap (sets out 0) (ed ∙ ap (λ (k : ℕ). take k (drop (data_from + i * 512) s)) en ∙ (data_is s t b i p)))

    -- ---- output

    read_after : (a : Answer) → output_at (length out) (view s) (Some i) ≡ a → output_read_at i (length out) (view s) ≡ settled a (output_read (view s) (Some i)) (view s)
    read_after a e = ap (λ (x : Answer). settled x (output_read (view s) (Some i)) (view s)) e

    pub output_short : length out ≤ n → (8, (s, out)) ≡ lifted_out (output_read_at i) s out
    output_short g =
        let m = (size_is s t b i p) in
        out_no s out t (output_read_at i) b NoRoom
        (read_after (Refused NoRoom) (fits_not (length out) (output_bytes c) (Wrote (output_bytes c)) (omega arith)))

    pub output_wrote : n < length out → (run : Bool) (d o₁ o₂ s₁ : List ℕ) → run ≡ run_in (mark_at s i) → d ≡ take n (drop (data_from + i * 512) s)
        → o₁ ≡ put 1 out 0 (bool_byte run) → o₂ ≡ sets o₁ 1 d → Becomes s s₁ (mark_as i run false)
        → (2 ^ 8 * (n + 1), (s₁, o₂)) ≡ lifted_out (output_read_at i) s out
    unfolding put le_bytes
    output_wrote g run d o₁ o₂ s₁ er ed e₁ e₂ be =
        let m = (size_is s t b i p) in
        let r : run ≡ c.run = er ∙ run_is s t b i p in
        let number : bool_byte run ≡ of_bool c.run = byte_of run ∙ ap of_bool r in
        let bs : d ≡ c.bytes = ed ∙ ap (λ (k : ℕ). take k (drop (data_from + i * 512) s)) en ∙ (data_is s t b i p) in
        let left : store (mark_as i c.run false (view s)) s ≡ store (output_read (view s) (Some i)) s =
        ap (λ (z : List Content). store (with_contents z (view s)) s) (sym (change_at_place read no_content (view s).contents i)) in
        out_wrote s out t (output_read_at i) (n + 1) s₁ o₂ (output_bytes c) (output_read (view s) (Some i))
        (read_after (Wrote (output_bytes c)) (fits_in (length out) (output_bytes c) (Wrote (output_bytes c)) (omega arith)))
        (omega arith)
        (be (view s) s h ∙ ap (λ (x : Bool). store (mark_as i x false (view s)) s) r ∙ left)
        (e₂ ∙ (λ j. sets (e₁ j) 1 (bs j)) ∙ (λ j. sets (sets out 0 (number j ∷ [])) 1 c.bytes) ∙ sym (sets_append out 0 (of_bool c.run ∷ []) c.bytes))

-- ---- a number that names no kind: no assembly has it

none_at : (l : List Shape) (m : ℕ) → place (is_at (λ k. false) m) l ≡ None
none_at [] m = refl
none_at (a ∷ l) m = ap (maybe None (λ i. Some (suc i))) (none_at l m)

pub no_kind : (n : ℕ) → ((k : AssemblyKind) → number_of k ≢ n) → (u : Setup) (m : ℕ) → place_of (kind_test n) u m ≡ None
unfolding place_of
no_kind zero f u m = none_at u.assemblies m
no_kind (suc zero) f u m = absurd (f Input refl)
no_kind (suc (suc zero)) f u m = absurd (f Output refl)
no_kind (suc (suc (suc zero))) f u m = absurd (f Config refl)
no_kind (suc (suc (suc (suc n)))) f u m = none_at u.assemblies m

-- ---- the calls, by the place that was found

module _ (s out : List ℕ) (t : tested s ≡ true) (kind n : ℕ) (o : Option ℕ) (e : place_of (kind_test kind) (setup_of s) n ≡ o) where
  pub assembly_none : o ≡ None → (6, out) ≡ lifted_read (assembly_answer kind n) s out
  unfolding assembly_answer view
  assembly_none q = read_no s out t (assembly_answer kind n) NoAssembly (ap (assembly_at (length out) (view s)) (e ∙ q))

  pub assembly_some : (i : ℕ) → o ≡ Some i → (r : ℕ × List ℕ) → r ≡ lifted_read (assembly_read_at i) s out → r ≡ lifted_read (assembly_answer kind n) s out
  unfolding assembly_answer view
  assembly_some i q r w = w ∙ read_same s out t (assembly_read_at i) (assembly_answer kind n) (ap (assembly_at (length out) (view s)) (sym (e ∙ q)))

module _ (s out : List ℕ) (t : tested s ≡ true) (n : ℕ) (o : Option ℕ) (e : place_of (kind_test 2) (setup_of s) n ≡ o) where
  pub output_none : Bytes s → o ≡ None → (6, (s, out)) ≡ lifted_out (output_call n) s out
  unfolding output_call output_answer output_effect view
  output_none b q =
      out_no s out t (output_call n) b NoAssembly
      (ap (λ (z : Option ℕ). settled (output_at (length out) (view s) z) (output_read (view s) z) (view s)) (e ∙ q))

  pub output_some : (i : ℕ) → o ≡ Some i → (r : ℕ × (List ℕ × List ℕ)) → r ≡ lifted_out (output_read_at i) s out → r ≡ lifted_out (output_call n) s out
  unfolding output_call output_answer output_effect view
  output_some i q r w =
      w ∙ out_same s out t (output_read_at i) (output_call n)
      (ap (λ (z : Option ℕ). settled (output_at (length out) (view s) z) (output_read (view s) z) (view s)) (sym (e ∙ q)))
