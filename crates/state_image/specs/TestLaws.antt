-- The state test's tests one by one, as code makes them.
use Rattle.std.specs.Prelude.{ℕ, ◌+◌, ◌*◌, ◌≤◌, ◌<◌, Bool, ◌&&◌, List, [], ◌∷◌, ◌≡◌, ltb, length, take}
use Rattle.std.proofs.Math.Bool.{true, false}
use Rattle.std.proofs.Math.Path.{refl, ap, sym}
use Rattle.std.proofs.Common.{◌∙◌, arith, le-leb, le-ltb, lt-ltb, eq-eqb, ne_eqb}
use Rattle.std.proofs.Math.Dec.{leb}
use Rattle.std.proofs.Math.ListN.{drop}
use Rattle.std.proofs.lemmas.Bool.{lt-leb}
use Rattle.base_cells.specs.Numbers.{le, le_take}
use Rattle.base_cells.specs.Back.{all, all_fails}
use Rattle.base_tables.specs.Tables.{rows, rows_rest, rows_end}
use Rattle.state_rules.specs.Places.{setup_in, state_size, next_id_of, ring_word_of, ring_bound, connections_of, assemblies_of}
use Rattle.state_rules.specs.Setups.{shape_in, tests_setup, good_setup, tests_shapes, good_shapes}
use Rattle.state_rules.specs.Listed.{listed_rest, listed_end}
use Rattle.state_rules.specs.Image.{good_head, tests_state, tested}

-- ---- the setup, the head, the whole

pub setup_fails0 : (r : List ℕ) → 16 < assemblies_of r → false ≡ good_setup r
unfolding good_setup
setup_fails0 r h = sym (all_fails (tests_setup r) 0 (lt-leb (assemblies_of r) 16 h))

pub setup_fails1 : (r : List ℕ) → le 1 r 1 ≤ 0 → false ≡ good_setup r
unfolding good_setup
setup_fails1 r h = sym (all_fails (tests_setup r) 1 (le-ltb 0 (le 1 r 1) h))

pub setup_fails2 : (r : List ℕ) → 32 < le 1 r 2 → false ≡ good_setup r
unfolding good_setup
setup_fails2 r h = sym (all_fails (tests_setup r) 2 (lt-leb (le 1 r 2) 32 h))

pub setup_fails3 : (r : List ℕ) → 32 < le 1 r 3 → false ≡ good_setup r
unfolding good_setup
setup_fails3 r h = sym (all_fails (tests_setup r) 3 (lt-leb (le 1 r 3) 32 h))

pub setup_fails4 : (r : List ℕ) → 65536 < le 4 r 4 → false ≡ good_setup r
unfolding good_setup
setup_fails4 r h = sym (all_fails (tests_setup r) 4 (lt-leb (le 4 r 4) 65536 h))

pub setup_passes : (r : List ℕ) → assemblies_of r ≤ 16 → 0 < le 1 r 1 → le 1 r 2 ≤ 32 → le 1 r 3 ≤ 32 → le 4 r 4 ≤ 65536 → true ≡ good_setup r
unfolding good_setup all
setup_passes r h0 h1 h2 h3 h4 = simp (le-leb (assemblies_of r) 16 h0, lt-ltb 0 (le 1 r 1) h1, le-leb (le 1 r 2) 32 h2, le-leb (le 1 r 3) 32 h3, le-leb (le 4 r 4) 65536 h4)

pub head_passes : (l : List ℕ) → 0 < next_id_of l → ring_word_of l < ring_bound → connections_of l ≤ 32 → true ≡ good_head l
unfolding good_head all
head_passes l h0 h1 h2 = simp (lt-ltb 0 (next_id_of l) h0, lt-ltb (ring_word_of l) ring_bound h1, le-leb (connections_of l) 32 h2)

all_three : (a b c : Bool) → ((a && b) && c) ≡ all (a ∷ b ∷ c ∷ [])
unfolding all
all_three true true true = refl
all_three true true false = refl
all_three true false c = refl
all_three false b c = refl

-- the three numbers as code reads them
pub head_is : (l : List ℕ) (id ring conns : ℕ) → id ≡ next_id_of l → ring ≡ ring_word_of l → conns ≡ connections_of l
    → ((ltb 0 id && ltb ring ring_bound) && leb conns 32) ≡ good_head l
unfolding good_head
head_is l id ring conns ei er ec =
    (λ j. (ltb 0 (ei j) && ltb (er j) ring_bound) && leb (ec j) 32)
    ∙ all_three (ltb 0 (next_id_of l)) (ltb (ring_word_of l) ring_bound) (leb (connections_of l) 32)

all_one : (b : Bool) → b ≡ all (b ∷ [])
unfolding all
all_one true = refl
all_one false = refl

module _ (l : List ℕ) where
  pub state_fails0 : (length l ≡ state_size → ⊥) → false ≡ tested l
  unfolding tested
  state_fails0 h = sym (all_fails (tests_state l) 0 (ne_eqb (length l) state_size h))

  pub state_fails1 : good_setup (setup_in l) ≡ false → false ≡ tested l
  unfolding tested
  state_fails1 h = sym (all_fails (tests_state l) 1 (h))

  pub state_fails2 : good_head l ≡ false → false ≡ tested l
  unfolding tested
  state_fails2 h = sym (all_fails (tests_state l) 2 (h))

  pub state_passes : length l ≡ state_size → good_setup (setup_in l) ≡ true → good_head l ≡ true → good_shapes (setup_in l) ≡ true → true ≡ tested l
  unfolding tested all
  state_passes a b c d = simp (eq-eqb (length l) state_size a, b, c, d)

  -- the last test's answer is the whole test's, once the others passed
  pub state_last : length l ≡ state_size → good_setup (setup_in l) ≡ true → good_head l ≡ true → (x : Bool) → x ≡ good_shapes (setup_in l) → x ≡ tested l
  unfolding tested all
  state_last a b c x f = f ∙ simp (eq-eqb (length l) state_size a, b, c) (all_one (good_shapes (setup_in l)))

  pub assemblies_in : assemblies_of (setup_in l) ≡ assemblies_of l
  assemblies_in = le_take 1 l 192 0 (omega arith)

-- ---- a walk along the rows, with a test at each

all_and : (b : Bool) (bs : List Bool) → all (b ∷ bs) ≡ (b && all bs)
unfolding all
all_and true bs = refl
all_and false bs = refl

module _ (size : ℕ) (good : List ℕ → Bool) (n : ℕ) (r : List ℕ) where
  pub walk_stops : (i : ℕ) → i < n → good (take size (drop (i * size) r)) ≡ false → all (drop i (rows size good n r)) ≡ false
  unfolding all
  walk_stops i h e = ap all (rows_rest size good n r i h) ∙ ap (λ (b : Bool). all (b ∷ drop (i + 1) (rows size good n r))) e

  pub walk_on : (i : ℕ) → i < n → good (take size (drop (i * size) r)) ≡ true → all (drop i (rows size good n r)) ≡ all (drop (i + 1) (rows size good n r))
  unfolding all
  walk_on i h e = ap all (rows_rest size good n r i h) ∙ ap (λ (b : Bool). all (b ∷ drop (i + 1) (rows size good n r))) e

  pub walk_ends : (i : ℕ) → n ≤ i → all (drop i (rows size good n r)) ≡ true
  unfolding all
  walk_ends i h = ap all (rows_end size good n r i h)

-- ---- a run along the sizes: what was seen to be good so far, and the rest

module _ (r : List ℕ) where
  sizes_on : (i : ℕ) (b : Bool) → i < 16 → (b && all (drop i (tests_shapes r))) ≡ ((b && leb (shape_in r i).size 512) && all (drop (i + 1) (tests_shapes r)))
  sizes_on i true h =
      ap all (listed_rest (λ j. leb (shape_in r j).size 512) 16 i h) ∙ all_and (leb (shape_in r i).size 512) (drop (i + 1) (tests_shapes r))
  sizes_on i false h = refl

  sizes_end : (i : ℕ) (b : Bool) → 16 ≤ i → (b && all (drop i (tests_shapes r))) ≡ b
  unfolding all
  sizes_end i true h = ap all (listed_end (λ j. leb (shape_in r j).size 512) 16 i h)
  sizes_end i false h = refl

  pub run_begins : good_shapes r ≡ (true && all (drop 0 (tests_shapes r)))
  unfolding good_shapes
  run_begins = refl

  -- a turn, with the size that code read
  pub run_on : (i v : ℕ) (b : Bool) → i < 16 → good_shapes r ≡ (b && all (drop i (tests_shapes r))) → v ≡ (shape_in r i).size
      → good_shapes r ≡ ((b && leb v 512) && all (drop (i + 1) (tests_shapes r)))
  run_on i v b h e ev = e ∙ sizes_on i b h ∙ ap (λ (k : ℕ). (b && leb k 512) && all (drop (i + 1) (tests_shapes r))) (sym ev)

  pub run_ends : (i : ℕ) (b : Bool) → 16 ≤ i → good_shapes r ≡ (b && all (drop i (tests_shapes r))) → b ≡ good_shapes r
  run_ends i b h e = sym (e ∙ sizes_end i b h)
