-- What an accepted block says, test by test.
use Rattle.std.specs.Prelude.{ℕ, ◌+◌, ◌-◌, ◌≤◌, ◌<◌, Bool, true, false, ◌&&◌, ◌||◌, ◌≡◌, refl, eqb, leb, length, take, drop, Some, None}
use Rattle.std.proofs.Math.Bool.{cond, not}
use mathlib.Core.List.{List, ◌++◌, map}
use Rattle.std.proofs.Math.Path.{ap}
use Rattle.std.proofs.Common.{sym, ◌∙◌, arith, length-drop, length-take-le, take_at, take_all}
use borrow.Author.Tests.{eqb-true, leb-true, leb-false, ne_eqb}
use Rattle.base_cells.specs.Numbers.{le, length_put, le_put_same}
use Rattle.base_cells.specs.Back.{all, all_at}
use Rattle.base_tables.specs.Tables.{rows, length_rows}
use Rattle.base_tables.specs.Ring.{by_cases}
use Rattle.rules.specs.Lists.{any}
use Rattle.rules.specs.State.{Shape}
use Rattle.rules.specs.Setup.{shape_ok, distinct, assemblies_ok, name_ok, eds_ok, transfer_ok, setup_ok}
use Rattle.state_rules.specs.Setups.{eds_of}
use Rattle.state_rules.specs.Places.{assemblies_of}
use Rattle.app_starting.specs.Block.{shapes_at, shape_size, dec_shape, shapes_given, eds_mark, kind_given, marked_block, setup_given, tests_block, accepted}

-- ---- a chain of tests, one by one

no : {P : Type 0} → false ≡ true → P
no e = absurd (let z : ◌≡◌ {A = ℕ} 0 1 = cc in omega arith)

first_of : (a b : Bool) → a && b ≡ true → a ≡ true
first_of true b e = refl
first_of false b e = no e

two_of : (a b c : Bool) → a && b && c ≡ true → (a ≡ true) × (b ≡ true)
two_of true true c e = (refl, refl)
two_of true false c e = no e
two_of false b c e = no e

pub record Five (a b c d e : Bool) : Type 0 where
  pub one : a ≡ true
  pub two : b ≡ true
  pub three : c ≡ true
  pub four : d ≡ true
  pub five : e ≡ true

five_of : (a b c d e : Bool) → a && b && c && d && e ≡ true → Five a b c d e
five_of true true true true true h = record { one = refl; two = refl; three = refl; four = refl; five = refl }
five_of true true true true false h = no h
five_of true true true false e h = no h
five_of true true false d e h = no h
five_of true false c d e h = no h
five_of false b c d e h = no h

too_long : (n : ℕ) (xs : List ℕ) → 33 ≤ n → 33 ≤ length xs → length (take n xs) ≤ 32 → ⊥
too_long n xs a b c =
    by_cases (leb n (length xs))
    (λ e. let m = length-take-le n xs (leb-true n (length xs) e) in omega arith)
    (λ e. let q = leb-false n (length xs) e in let m : length (take n xs) ≡ length xs = ap length (take_all n xs (omega arith)) in omega arith)

module _ (block eds : List ℕ) (long : length block ≡ 192) where
  -- the EDS's mark, and an EDS that is given
  pub mark_of : le 4 (marked_block block eds) 4 ≡ eds_mark (le 4 block 4) eds
  unfolding marked_block
  mark_of = le_put_same 3 block 4 (eds_mark (le 4 block 4) eds) (omega arith)

  pub no_mark : eqb (le 4 block 4) 0 ≡ true → le 4 (marked_block block eds) 4 ≡ 0
  no_mark e = mark_of ∙ ap (λ (b : Bool). cond b 0 (length eds + 1)) e

  pub some_mark : eqb (le 4 block 4) 0 ≡ false → le 4 (marked_block block eds) 4 ≡ length eds + 1
  some_mark e = mark_of ∙ ap (λ (b : Bool). cond b 0 (length eds + 1)) e

  pub no_eds : eqb (le 4 block 4) 0 ≡ true → (setup_given block eds).eds ≡ None
  unfolding setup_given
  no_eds e = ap (λ (m : ℕ). eds_of m eds) (no_mark e)

  pub some_eds : eqb (le 4 block 4) 0 ≡ false → (setup_given block eds).eds ≡ Some eds
  unfolding setup_given
  some_eds e =
      ap (λ (m : ℕ). eds_of m eds) (some_mark e)
      ∙ ap (λ (b : Bool). cond b None (Some (take (length eds + 1 - 1) eds))) (ne_eqb (length eds + 1) 0 (λ q. omega arith))
      ∙ ap Some (take_all (length eds + 1 - 1) eds (omega arith))

module _ (block eds : List ℕ) (ok : accepted block eds ≡ true) where
  abbrev r : List ℕ
  r = marked_block block eds

  pub long_block : length block ≡ 192
  unfolding accepted
  long_block = eqb-true (length block) 192 (all_at (tests_block block eds) ok 0)

  pub flag_bit : le 4 block 4 ≤ 1
  unfolding accepted
  flag_bit = leb-true (le 4 block 4) 1 (all_at (tests_block block eds) ok 1)

  pub no_bytes : not (eqb (le 4 block 4) 0) || eqb (length eds) 0 ≡ true
  unfolding accepted
  no_bytes = all_at (tests_block block eds) ok 2

  pub kinds_ok : all (rows 5 kind_given (assemblies_of block) (drop shapes_at block)) ≡ true
  unfolding accepted
  kinds_ok = all_at (tests_block block eds) ok 3

  pub sizes_ok : setup_ok (setup_given block eds) ≡ true
  unfolding accepted
  sizes_ok = all_at (tests_block block eds) ok 4

  pub length_marked : length (marked_block block eds) ≡ 192
  unfolding marked_block
  length_marked = length_put 4 block 4 (eds_mark (le 4 block 4) eds) ∙ long_block

  chain : Five (assemblies_ok (setup_given block eds).assemblies) (name_ok (setup_given block eds).identity.name) (name_ok (setup_given block eds).eds_name) (eds_ok (setup_given block eds).eds) (transfer_ok (setup_given block eds).transfer_limit)
  unfolding setup_ok
  chain =
      five_of (assemblies_ok (setup_given block eds).assemblies) (name_ok (setup_given block eds).identity.name) (name_ok (setup_given block eds).eds_name)
      (eds_ok (setup_given block eds).eds) (transfer_ok (setup_given block eds).transfer_limit) sizes_ok

  assemblies_chain : (leb (length (shapes_given block)) 16 ≡ true)
      × (not (any (λ a. not (shape_ok a)) (shapes_given block)) ≡ true)
  unfolding setup_given
  assemblies_chain =
      let xs : List Shape = shapes_given block in
      two_of (leb (length xs) 16) (not (any (λ a. not (shape_ok a)) xs)) (distinct (map (λ a. a.instance) xs)) chain.one

  pub few : assemblies_of block ≤ 16
  few =
      let xs : List Shape = shapes_given block in
      let n = length_rows shape_size dec_shape (assemblies_of block) (drop shapes_at block) in
      let h : length xs ≤ 16 = leb-true (length xs) 16 assemblies_chain.0 in
      omega arith

  pub shapes_ok : not (any (λ a. not (shape_ok a)) (shapes_given block)) ≡ true
  shapes_ok = assemblies_chain.1

  -- a name of at most 32 bytes that are all there
  short : (n k : ℕ) → k + 33 ≤ 192 → length (take n (drop k (marked_block block eds))) ≤ 32 → n ≤ 32
  short n k h p =
      let l = length_marked in
      let d : length (drop k r) ≡ length r - k = length-drop k r in
      by_cases (leb n 32)
      (λ e. leb-true n 32 e)
      (λ e. let q = leb-false n 32 e in absurd (too_long n (drop k r) (omega arith) (omega arith) p))

  pub short_name : le 1 (marked_block block eds) 2 ≤ 32
  unfolding setup_given
  short_name = short (le 1 r 2) 46 (omega arith) (leb-true (length (take (le 1 r 2) (drop 46 r))) 32 chain.two)

  pub short_eds_name : le 1 (marked_block block eds) 3 ≤ 32
  unfolding setup_given
  short_eds_name = short (le 1 r 3) 78 (omega arith) (leb-true (length (take (le 1 r 3) (drop 78 r))) 32 chain.three)

  pub some_transfer : 0 < le 1 (marked_block block eds) 1
  unfolding setup_given
  some_transfer = leb-true 1 (le 1 r 1) (first_of (leb 1 (le 1 r 1)) (leb (le 1 r 1) 255) chain.five)

  -- the EDS: none, and no bytes; or its bytes
  pub absent : eqb (le 4 block 4) 0 ≡ true → length eds ≡ 0
  absent e = eqb-true (length eds) 0 (ap (λ (b : Bool). not b || eqb (length eds) 0) (sym e) ∙ no_bytes)

  pub short_eds : length eds ≤ 65535
  short_eds =
      by_cases (eqb (le 4 block 4) 0)
      (λ e. let z = absent e in omega arith)
      (λ e. leb-true (length eds) 65535 (ap eds_ok (sym (some_eds block eds long_block e)) ∙ chain.four))

  pub small_mark : le 4 (marked_block block eds) 4 ≤ 65536
  small_mark =
      let s = short_eds in
      by_cases (eqb (le 4 block 4) 0)
      (λ e. let m = no_mark block eds long_block e in omega arith)
      (λ e. let m = some_mark block eds long_block e in omega arith)

  -- what stands behind the EDS is not of it
  pub eds_same : (z : List ℕ) → eds_of (le 4 (marked_block block eds) 4) (eds ++ z) ≡ eds_of (le 4 (marked_block block eds) 4) eds
  eds_same z =
      by_cases (eqb (le 4 block 4) 0)
      (λ e. let m = no_mark block eds long_block e in
      ap (λ (n : ℕ). eds_of n (eds ++ z)) m ∙ sym (ap (λ (n : ℕ). eds_of n eds) m))
      (λ e. let m = some_mark block eds long_block e in
      let k : length eds ≡ length eds + 1 - 1 = omega arith in
      ap (λ (n : ℕ). eds_of n (eds ++ z)) m
      ∙ ap (λ (x : List ℕ). cond (eqb (length eds + 1) 0) None (Some x))
      (take_at eds z (length eds + 1 - 1) k ∙ sym (take_all (length eds + 1 - 1) eds (omega arith)))
      ∙ sym (ap (λ (n : ℕ). eds_of n eds) m))
