-- The block's assemblies, test by test: each shape, and that no instance stands twice.
use Rattle.std.specs.Prelude.{ℕ, ◌+◌, ◌*◌, ◌≤◌, ◌<◌, Bool, true, false, not, ◌&&◌, ◌||◌, List, [], ◌∷◌, map, ◌≡◌, eqb, length, get_or, take, drop}
use Rattle.std.proofs.Math.Path.{ap}
use Rattle.std.proofs.Common.{sym, ◌∙◌, arith, add-one, drop_of_length-le, drop-cons}
use Rattle.std.proofs.Math.Dec.{leb}
use Rattle.std.proofs.Math.ListN.{length-map, get_or-map}
use borrow.Author.Tests.{le-leb, lt-leb, eq-eqb, ne_eqb}
use Rattle.base_cells.specs.Numbers.{le, le_drop}
use Rattle.base_tables.specs.Tables.{rows, length_rows, row_at_lem}
use Rattle.rules.specs.Lists.{any}
use Rattle.rules.specs.State.{Shape, no_shape}
use Rattle.rules.specs.Setup.{shape_ok, distinct}
use Rattle.state_rules.specs.RowLaws.{in_row}
use Rattle.app_starting.specs.Block.{shapes_at, shape_size, dec_shape, given_in, kind_given}

-- a shape of a kind that there is, within the rules' sizes
unfoldable pub shape_given : List ℕ → Bool
shape_given b = kind_given b && shape_ok (dec_shape b)

-- the instances, in the block's order
unfoldable pub instances_in : ℕ → List ℕ → List ℕ
instances_in n r = map (λ a. a.instance) (rows shape_size dec_shape n (drop shapes_at r))

-- ---- one shape

-- a number of it, found in the whole block
pub shape_number : (k at : ℕ) (r : List ℕ) (i : ℕ) → at + k ≤ 5 → le k (take shape_size (drop (i * shape_size) (drop shapes_at r))) at ≡ le k r (i * 5 + (shapes_at + at))
shape_number k at r i h = in_row k 5 at (drop shapes_at r) (i * 5) h ∙ le_drop k r shapes_at (i * 5 + at) ∙ ap (le k r) (omega arith)

module _ (r : List ℕ) (i : ℕ) where
  abbrev b : List ℕ
  b = take shape_size (drop (i * shape_size) (drop shapes_at r))

  kind_in_lem : le 1 (take shape_size (drop (i * shape_size) (drop shapes_at r))) 4 ≡ le 1 r (i * 5 + 114)
  kind_in_lem = shape_number 1 4 r i (omega arith)

  pub kind_low : le 1 r (i * 5 + 114) < 1 → false ≡ shape_given (take shape_size (drop (i * shape_size) (drop shapes_at r)))
  unfolding shape_given kind_given
  kind_low h = let e = kind_in_lem in simp (lt-leb 1 (le 1 b 4) (omega arith))

  pub kind_high : 1 ≤ le 1 r (i * 5 + 114) → 3 < le 1 r (i * 5 + 114) → false ≡ shape_given (take shape_size (drop (i * shape_size) (drop shapes_at r)))
  unfolding shape_given kind_given
  kind_high g h = let e = kind_in_lem in simp (le-leb 1 (le 1 b 4) (omega arith), lt-leb (le 1 b 4) 3 (omega arith))

  module _ (g : 1 ≤ le 1 r (i * 5 + 114)) (h : le 1 r (i * 5 + 114) ≤ 3) where
    pub kind_good : kind_given (take shape_size (drop (i * shape_size) (drop shapes_at r))) ≡ true
    unfolding kind_given
    kind_good = let e = kind_in_lem in simp (le-leb 1 (le 1 b 4) (omega arith), le-leb (le 1 b 4) 3 (omega arith))

-- ---- the instances

module _ (n : ℕ) (r : List ℕ) where
  length_instances : length (instances_in n r) ≡ n
  unfolding instances_in
  length_instances = length-map (rows shape_size dec_shape n (drop shapes_at r)) (λ a. a.instance) ∙ length_rows shape_size dec_shape n (drop shapes_at r)

  instance_at : (i : ℕ) → i < n → get_or (instances_in n r) i 0 ≡ (given_in r i).instance
  unfolding instances_in
  instance_at i h = get_or-map (λ a. a.instance) (rows shape_size dec_shape n (drop shapes_at r)) i no_shape ∙ ap (λ (a : Shape). a.instance) (row_at_lem shape_size dec_shape n (drop shapes_at r) i no_shape h)

  here : (i : ℕ) → i < n → drop i (instances_in n r) ≡ (given_in r i).instance ∷ drop (i + 1) (instances_in n r)
  here i h =
      drop-cons (instances_in n r) i 0 (let e = length_instances in omega arith)
      ∙ (λ j. instance_at i h j ∷ drop (sym (add-one i) j) (instances_in n r))

  past : (i : ℕ) → n ≤ i → drop i (instances_in n r) ≡ []
  past i h = drop_of_length-le (instances_in n r) {i = i} (let e = length_instances in omega arith)

  -- a later place with the same instance
  pub again_here : (x j : ℕ) → j < n → x ≡ (given_in r j).instance → any (eqb x) (drop j (instances_in n r)) ≡ true
  again_here x j h e = ap (any (eqb x)) (here j h) ∙ ap (λ (b : Bool). b || any (eqb x) (drop (j + 1) (instances_in n r))) (eq-eqb x (given_in r j).instance e)

  pub again_on : (x j : ℕ) → j < n → (x ≡ (given_in r j).instance → ⊥) → any (eqb x) (drop j (instances_in n r)) ≡ any (eqb x) (drop (j + 1) (instances_in n r))
  again_on x j h e = ap (any (eqb x)) (here j h) ∙ ap (λ (b : Bool). b || any (eqb x) (drop (j + 1) (instances_in n r))) (ne_eqb x (given_in r j).instance e)

  pub again_ends : (x j : ℕ) → n ≤ j → any (eqb x) (drop j (instances_in n r)) ≡ false
  again_ends x j h = ap (any (eqb x)) (past j h)

  -- no instance twice
  once_step : (i : ℕ) (b : Bool) → i < n → any (eqb (given_in r i).instance) (drop (i + 1) (instances_in n r)) ≡ b
      → distinct (drop i (instances_in n r)) ≡ not b && distinct (drop (i + 1) (instances_in n r))
  once_step i b h e = ap distinct (here i h) ∙ ap (λ (x : Bool). not x && distinct (drop (i + 1) (instances_in n r))) e

  pub once_stops : (i : ℕ) → i < n → any (eqb (given_in r i).instance) (drop (i + 1) (instances_in n r)) ≡ true → distinct (drop i (instances_in n r)) ≡ false
  once_stops i h e = once_step i true h e

  pub once_on : (i : ℕ) → i < n → any (eqb (given_in r i).instance) (drop (i + 1) (instances_in n r)) ≡ false
      → distinct (drop i (instances_in n r)) ≡ distinct (drop (i + 1) (instances_in n r))
  once_on i h e = once_step i false h e

  pub once_ends : (i : ℕ) → n ≤ i → distinct (drop i (instances_in n r)) ≡ true
  once_ends i h = ap distinct (past i h)
