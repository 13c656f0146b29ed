-- What a state must meet to be stored, what a buffer must meet to be written over, and what the state test says of a buffer.
use Rattle.std.specs.Prelude.{ℕ, ◌≤◌, ◌<◌, true, List, [], ◌∷◌, ◌≡◌, ltb, length}
use Rattle.std.proofs.Common.{arith}
use Rattle.std.proofs.Math.ListN.{get_or-eq_default}
use borrow.Author.Tests.{leb-true, ltb-true, ltb-false, eqb-true}
use Rattle.base_cells.specs.Numbers.{le}
use Rattle.base_cells.specs.Back.{all, all_at}
use Rattle.base_tables.specs.Ring.{by_cases}
use Rattle.rules.specs.State.{State, no_shape, shape_at, content_at}
use Rattle.state_rules.specs.Places.{setup_in, state_size, next_id_of, ring_word_of, ring_bound, first_of, waiting_of, connections_of, assemblies_of}
use Rattle.state_rules.specs.Setups.{shape_in, setup_of, tests_setup, good_setup, good_shapes}
use Rattle.state_rules.specs.SetupLaws.{length_shapes, shape_of_lem, shape_short}
use Rattle.state_rules.specs.Bits.{word_fits}
use Rattle.state_image.specs.RowsFit.{RowsFit}
use Rattle.state_rules.specs.Image.{good_head, tests_head, tests_state, tested}

-- each record of a list has 32 bytes
pub data Records32 : List (List ℕ) → Type 0 where
  none : Records32 []
  one : {e : List ℕ} {es : List (List ℕ)} → length e ≡ 32 → Records32 es → Records32 (e ∷ es)

pub record Fits (st : State) : Type 0 where
  pub contents : length st.contents ≡ length st.setup.assemblies
  pub sized : (i : ℕ) → length (content_at st i).bytes ≡ (shape_at st.setup i).size
  pub table : length st.table ≤ 32
  pub rows : RowsFit st.table
  pub gone : st.events.gone < 1024
  pub waiting : length st.events.waiting ≤ 1024
  pub records : Records32 st.events.waiting
  pub id : 0 < st.next_id

pub record Lent (l : List ℕ) : Type 0 where
  pub long : length l ≡ state_size
  pub sound : good_setup (setup_in l) ≡ true
  pub shapes : good_shapes (setup_in l) ≡ true
  pub conns : connections_of l ≤ 32

-- st can be written over l: it fits, l was tested, and what was set up in l is st's setup
pub record Suits (st : State) (l : List ℕ) : Type 0 where
  pub fits : Fits st
  pub lent : Lent l
  pub setup : st.setup ≡ setup_of l

-- ---- what the tests of the setup say

module _ (r : List ℕ) (ok : good_setup r ≡ true) where
  pub few_assemblies : assemblies_of r ≤ 16
  unfolding good_setup
  few_assemblies = leb-true (assemblies_of r) 16 (all_at (tests_setup r) ok 0)

  pub some_transfer : 0 < le 1 r 1
  unfolding good_setup
  some_transfer = ltb-true 0 (le 1 r 1) (all_at (tests_setup r) ok 1)

  pub short_name : le 1 r 2 ≤ 32
  unfolding good_setup
  short_name = leb-true (le 1 r 2) 32 (all_at (tests_setup r) ok 2)

  pub short_eds_name : le 1 r 3 ≤ 32
  unfolding good_setup
  short_eds_name = leb-true (le 1 r 3) 32 (all_at (tests_setup r) ok 3)

  pub short_eds : le 4 r 4 ≤ 65536
  unfolding good_setup
  short_eds = leb-true (le 4 r 4) 65536 (all_at (tests_setup r) ok 4)

module _ (l : List ℕ) where
  pub length_assemblies : length (setup_of l).assemblies ≡ assemblies_of (setup_in l)
  unfolding setup_of
  length_assemblies = length_shapes (setup_in l)

  pub shape_at_lem : (i : ℕ) → i < assemblies_of (setup_in l) → shape_at (setup_of l) i ≡ shape_in (setup_in l) i
  unfolding setup_of
  shape_at_lem i h = shape_of_lem (setup_in l) i no_shape h

  pub size_short : assemblies_of (setup_in l) ≤ 16 → good_shapes (setup_in l) ≡ true → (i : ℕ) → (shape_at (setup_of l) i).size ≤ 512
  size_short few ok i =
      let n : ℕ = assemblies_of (setup_in l) in
      by_cases (ltb i n)
      (λ t. let h : i < n = ltb-true i n t in rw (shape_at_lem i h) (shape_short (setup_in l) ok i (omega arith)))
      (λ t. let h : n ≤ i = ltb-false i n t in let e = length_assemblies in
      rw (get_or-eq_default (setup_of l).assemblies no_shape {n = i} (omega arith)) (omega arith))

-- ---- what the state test says

module _ (l : List ℕ) (ok : tested l ≡ true) where
  pub is_long : length l ≡ state_size
  unfolding tested
  is_long = eqb-true (length l) state_size (all_at (tests_state l) ok 0)

  pub is_sound : good_setup (setup_in l) ≡ true
  unfolding tested
  is_sound = all_at (tests_state l) ok 1

  heads : all (tests_head l) ≡ true
  unfolding tested good_head
  heads = all_at (tests_state l) ok 2

  pub some_id : 0 < next_id_of l
  some_id = ltb-true 0 (next_id_of l) (all_at (tests_head l) heads 0)

  ring_small : ring_word_of l < ring_bound
  ring_small = ltb-true (ring_word_of l) ring_bound (all_at (tests_head l) heads 1)

  pub first_slot : first_of l < 1024
  first_slot = (word_fits (ring_word_of l) ring_small).1

  pub few_events : waiting_of l ≤ 1024
  few_events = (word_fits (ring_word_of l) ring_small).0

  pub few_conns : connections_of l ≤ 32
  few_conns = leb-true (connections_of l) 32 (all_at (tests_head l) heads 2)

  pub shapes_good : good_shapes (setup_in l) ≡ true
  unfolding tested
  shapes_good = all_at (tests_state l) ok 3

  pub lent : Lent l
  lent = record { long = is_long; sound = is_sound; shapes = shapes_good; conns = few_conns }
