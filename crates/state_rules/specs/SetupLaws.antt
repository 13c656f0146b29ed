-- The shapes of a setup region: how many, each at its place, and those from a place on.
use Rattle.std.specs.Prelude.{ℕ, zero, suc, ◌+◌, ◌≤◌, ◌<◌, Bool, List, [], ◌∷◌, ◌≡◌, length, get_or, drop}
use Rattle.std.proofs.Math.Bool.{true}
use Rattle.std.proofs.Common.{sym, ◌∙◌, arith}
use Rattle.std.proofs.Math.Dec.{leb}
use borrow.Author.Tests.{leb-true, le-leb}
use Rattle.base_cells.specs.Back.{all, all_at, all_cons, all_nil}
use Rattle.rules.specs.State.{Shape}
use Rattle.state_rules.specs.Places.{assemblies_of}
use Rattle.state_rules.specs.Setups.{shape_in, shapes_of, tests_shapes, good_shapes}
use Rattle.state_rules.specs.Listed.{listed, length_listed, listed_at, listed_rest, listed_end}

all_listed : (f : ℕ → Bool) (n : ℕ) → ((i : ℕ) → i < n → f i ≡ true) → all (listed f n) ≡ true
unfolding listed
all_listed f zero h = all_nil
all_listed f (suc n) h = all_cons (f 0) (listed (λ i. f (suc i)) n) (h 0 (omega arith)) (all_listed (λ i. f (suc i)) n (λ i g. h (suc i) (omega arith)))

module _ (r : List ℕ) where
  pub length_shapes : length (shapes_of r) ≡ assemblies_of r
  length_shapes = length_listed (shape_in r) (assemblies_of r)

  pub shape_of_lem : (i : ℕ) (d : Shape) → i < assemblies_of r → get_or (shapes_of r) i d ≡ shape_in r i
  shape_of_lem i d h = listed_at (shape_in r) (assemblies_of r) i d h

  pub shapes_rest : (i : ℕ) → i < assemblies_of r → drop i (shapes_of r) ≡ shape_in r i ∷ drop (i + 1) (shapes_of r)
  shapes_rest i h = listed_rest (shape_in r) (assemblies_of r) i h

  pub shapes_end : (i : ℕ) → assemblies_of r ≤ i → drop i (shapes_of r) ≡ []
  shapes_end i h = listed_end (shape_in r) (assemblies_of r) i h

  -- what the state test says of each place, in use or not
  pub shape_short : good_shapes r ≡ true → (i : ℕ) → i < 16 → (shape_in r i).size ≤ 512
  unfolding good_shapes
  shape_short ok i h = leb-true (shape_in r i).size 512 (sym (listed_at (λ j. leb (shape_in r j).size 512) 16 i true h) ∙ all_at (tests_shapes r) ok i)

  pub shapes_pass : ((i : ℕ) → i < 16 → (shape_in r i).size ≤ 512) → good_shapes r ≡ true
  unfolding good_shapes
  shapes_pass h = all_listed (λ j. leb (shape_in r j).size 512) 16 (λ i g. le-leb (shape_in r i).size 512 (h i g))
