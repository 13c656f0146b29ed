-- The setup's list of assemblies by instance alone.
use Rattle.std.specs.Prelude.{ℕ, ◌+◌, ◌≤◌, ◌<◌, max, Bool, List, [], ◌≡◌, refl, eqb, drop, Option}
use Rattle.std.proofs.Math.Path.{ap, sym}
use Rattle.std.proofs.Common.{◌∙◌, arith}
use Rattle.rules.specs.Lists.{place}
use Rattle.rules.specs.State.{Shape}
use Rattle.rules.specs.Objects.{largest_instance, assembly_class, assembly_place}
use Rattle.state_rules.specs.Places.{setup_in}
use Rattle.state_rules.specs.Listed.{listed, listed_rest, listed_end}
use Rattle.state_rules.specs.Setups.{shape_in, setup_from, setup_of, shapes_of}
use Rattle.state_rules.specs.Image.{view}

abbrev pub has_instance : ℕ → Shape → Bool
has_instance n a = eqb a.instance n

-- ---- the largest, along the list

module _ (n : ℕ) (r : List ℕ) where
  abbrev shapes : List Shape
  shapes = listed (shape_in r) n

  pub largest_starts : max 0 (largest_instance (drop 0 shapes)) ≡ largest_instance shapes
  largest_starts = omega arith

  pub largest_on : (i most : ℕ) → i < n → (m : ℕ) → m ≡ (shape_in r i).instance
      → max (max most m) (largest_instance (drop (i + 1) shapes)) ≡ max most (largest_instance (drop i shapes))
  largest_on i most h m e =
      (let z : max (max most m) (largest_instance (drop (i + 1) shapes)) ≡ max most (max (shape_in r i).instance (largest_instance (drop (i + 1) shapes))) = omega (arith, e) in z)
      ∙ ap (λ (xs : List Shape). max most (largest_instance xs)) (sym (listed_rest (shape_in r) n i h))

  pub largest_ends : (i most : ℕ) → n ≤ i → most ≡ max most (largest_instance (drop i shapes))
  largest_ends i most h =
      (let z : most ≡ max most 0 = omega arith in z)
      ∙ ap (λ (xs : List Shape). max most (largest_instance xs)) (sym (listed_end (shape_in r) n i h))

-- ---- the class

pub class_table : (s : List ℕ) → assembly_class (setup_from (setup_in s) []) ≡ assembly_class (view s).setup
unfolding assembly_class view setup_of
class_table s = refl

-- ---- the object

module _ (s : List ℕ) (n : ℕ) (x : Option ℕ) (e : x ≡ place (has_instance n) (shapes_of (setup_in s))) where
  pub found_is : assembly_place (view s).setup n ≡ x
  unfolding assembly_place view setup_of
  found_is = sym e
