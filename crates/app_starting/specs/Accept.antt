-- The block's tests as code makes them: an accepted block passes each, and a block that passes all is accepted.
use Rattle.std.specs.Prelude.{ℕ, zero, suc, ◌+◌, ◌≤◌, ◌<◌, Bool, false, ◌&&◌, ◌||◌, ◌≡◌, leb, length, get_or, take, drop}
use Rattle.std.proofs.Math.Bool.{true, cond, not}
use mathlib.Core.List.{List, [], ◌∷◌, map}
use Rattle.std.proofs.Math.Path.{refl, ap, ap₂, sym}
use Rattle.std.proofs.Common.{◌∙◌, arith, length-drop, length-take-le}
use Rattle.std.proofs.Math.Dec.{eqb}
use borrow.Author.Tests.{leb-true, ltb-true, le-leb, lt-leb, eq-eqb, ne_eqb}
use Rattle.base_cells.specs.Numbers.{le, le_1, drop_put, le_put_before}
use Rattle.base_cells.specs.Back.{all, all_at, all_fails, all_cons, all_nil}
use Rattle.base_tables.specs.Tables.{rows, length_rows}
use Rattle.base_tables.specs.Ring.{by_cases}
use Rattle.state_image.specs.TestLaws.{setup_passes}
use Rattle.rules.specs.Lists.{any}
use Rattle.rules.specs.State.{Shape}
use Rattle.rules.specs.Setup.{shape_ok, distinct, assemblies_ok, name_ok, eds_ok, transfer_ok, setup_ok}
use Rattle.state_rules.specs.Setups.{tests_setup, good_setup}
use Rattle.state_rules.specs.Places.{assemblies_of}
use Rattle.app_starting.specs.Block.{shapes_at, shape_size, dec_shape, shapes_given, kind_given, marked_block, eds_mark, setup_given, tests_block, accepted}
use Rattle.app_starting.specs.Given.{flag_bit, absent, short_eds, few, short_name, short_eds_name, some_transfer, kinds_ok, shapes_ok, no_eds, some_eds}
use Rattle.app_starting.specs.Shapes.{shape_given, instances_in}

-- the EDS's bytes: none where there is no EDS, else at most 65,535
unfoldable pub eds_fits : ℕ → ℕ → Bool
eds_fits flag n = cond (eqb flag 0) (eqb n 0) (leb n 65535)

pub eds_none : (flag n : ℕ) → flag ≡ 0 → eqb n 0 ≡ eds_fits flag n
unfolding eds_fits
eds_none flag n e = rw (eq-eqb flag 0 e) refl

pub eds_some : (flag n : ℕ) → (flag ≡ 0 → ⊥) → leb n 65535 ≡ eds_fits flag n
unfolding eds_fits
eds_some flag n e = rw (ne_eqb flag 0 e) refl

unlike : {P : Type 0} → true ≡ false → P
unlike e = absurd (let z : ◌≡◌ {A = ℕ} 0 1 = cc in omega arith)

-- ---- shapes: each of a kind that there is, and each within the rules' sizes

both : (a b : Bool) → a ≡ true → b ≡ true → a && b ≡ true
both a b p q = rw (p, q) refl

first_half : (a b : Bool) → a && b ≡ true → a ≡ true
first_half true b e = refl
first_half false b e = unlike (sym e)

second_half : (a b : Bool) → a && b ≡ true → b ≡ true
second_half true b e = e
second_half false b e = unlike (sym e)

none_of : (a b : Bool) → a ≡ true → not b ≡ true → not (not a || b) ≡ true
none_of a b p q = ap (λ (x : Bool). not (not x || b)) p ∙ q

neither : (a b : Bool) → not (not a || b) ≡ true → (a ≡ true) × (not b ≡ true)
neither true b e = (refl, e)
neither false b e = unlike (sym e)

head_all : (b : Bool) (bs : List Bool) → all (b ∷ bs) ≡ true → (b ≡ true) × (all bs ≡ true)
unfolding all
head_all true bs e = (refl, e)
head_all false bs e = unlike (sym e)

shapes_split : (n : ℕ) (x : List ℕ) → all (rows 5 shape_given n x) ≡ true
    → (all (rows 5 kind_given n x) ≡ true) × (not (any (λ a. not (shape_ok a)) (rows shape_size dec_shape n x)) ≡ true)
unfolding rows shape_given
shapes_split zero x e = (all_nil, refl)
shapes_split (suc n) x e =
    let h = head_all (shape_given (take 5 x)) (rows 5 shape_given n (drop 5 x)) e in
    let t = shapes_split n (drop 5 x) h.1 in
    let k = first_half (kind_given (take 5 x)) (shape_ok (dec_shape (take 5 x))) h.0 in
    let s = second_half (kind_given (take 5 x)) (shape_ok (dec_shape (take 5 x))) h.0 in
    (all_cons (kind_given (take 5 x)) (rows 5 kind_given n (drop 5 x)) k t.0, none_of (shape_ok (dec_shape (take 5 x))) (any (λ a. not (shape_ok a)) (rows shape_size dec_shape n (drop 5 x))) s t.1)

shapes_joined : (n : ℕ) (x : List ℕ) → all (rows 5 kind_given n x) ≡ true → not (any (λ a. not (shape_ok a)) (rows shape_size dec_shape n x)) ≡ true
    → all (rows 5 shape_given n x) ≡ true
unfolding rows shape_given
shapes_joined zero x k s = all_nil
shapes_joined (suc n) x k s =
    let h = head_all (kind_given (take 5 x)) (rows 5 kind_given n (drop 5 x)) k in
    let t = neither (shape_ok (dec_shape (take 5 x))) (any (λ a. not (shape_ok a)) (rows shape_size dec_shape n (drop 5 x))) s in
    all_cons (shape_given (take 5 x)) (rows 5 shape_given n (drop 5 x))
    (both (kind_given (take 5 x)) (shape_ok (dec_shape (take 5 x))) h.0 t.0)
    (shapes_joined n (drop 5 x) h.1 t.1)

-- ---- the block's bytes beside the mark

module _ (block eds : List ℕ) where
  abbrev r : List ℕ
  r = marked_block block eds

  pub low_same : (k : ℕ) → k + 1 ≤ 4 → le 1 (marked_block block eds) k ≡ le 1 block k
  unfolding marked_block
  low_same k h = le_put_before 1 4 block k 4 (eds_mark (le 4 block 4) eds) h

  rest_same : (k : ℕ) → 8 ≤ k → drop k (marked_block block eds) ≡ drop k block
  unfolding marked_block
  rest_same k h = drop_put 4 block 4 (eds_mark (le 4 block 4) eds) k h

  -- ---- one test fails

  refused : (b : Bool) → (accepted block eds ≡ true → b ≡ true) → b ≡ false → false ≡ accepted block eds
  refused b h e = by_cases (accepted block eds) (λ ok. unlike (sym (h ok) ∙ e)) (λ q. sym q)

  pub wrong_size : (length block ≡ 192 → ⊥) → false ≡ accepted block eds
  unfolding accepted
  wrong_size h = sym (all_fails (tests_block block eds) 0 (ne_eqb (length block) 192 h))

  pub wrong_flag : 1 < le 4 block 4 → false ≡ accepted block eds
  unfolding accepted
  wrong_flag h = sym (all_fails (tests_block block eds) 1 (lt-leb (le 4 block 4) 1 h))

  pub wrong_eds : (f : ℕ) → f ≡ le 4 block 4 → eds_fits f (length eds) ≡ false → false ≡ accepted block eds
  unfolding eds_fits
  wrong_eds f q =
      refused (eds_fits f (length eds))
      (λ ok.
      ap (λ (k : ℕ). eds_fits k (length eds)) q ∙
      by_cases (eqb (le 4 block 4) 0)
      (λ e. rw e (eq-eqb (length eds) 0 (absent block eds ok e)))
      (λ e. rw e (le-leb (length eds) 65535 (short_eds block eds ok))))

  pub wrong_numbers : good_setup block ≡ false → false ≡ accepted block eds
  wrong_numbers =
      refused (good_setup block)
      (λ ok.
      let a = few block eds ok in let b = some_transfer block eds ok in let c = short_name block eds ok in let d = short_eds_name block eds ok in
      let e = low_same 0 (omega arith) in let f = low_same 1 (omega arith) in let g = low_same 2 (omega arith) in let h = low_same 3 (omega arith) in
      let m = flag_bit block eds ok in
      sym (setup_passes block (omega arith) (omega arith) (omega arith) (omega arith) (omega arith)))

  pub wrong_shapes : (n : ℕ) → n ≡ assemblies_of block → all (rows 5 shape_given n (drop shapes_at block)) ≡ false → false ≡ accepted block eds
  wrong_shapes n e =
      refused (all (rows 5 shape_given n (drop shapes_at block)))
      (λ ok.
      ap (λ (k : ℕ). all (rows 5 shape_given k (drop shapes_at block))) e ∙
      shapes_joined (assemblies_of block) (drop shapes_at block) (kinds_ok block eds ok) (shapes_ok block eds ok))

-- ---- all but the last hold

last_of : (a b c d e : Bool) → a ≡ true → b ≡ true → c ≡ true → d ≡ true → all (a ∷ b ∷ c ∷ d ∷ e ∷ []) ≡ e
unfolding all
last_of a b c d true p q r s = rw (p, q, r, s) refl
last_of a b c d false p q r s = rw (p, q, r, s) refl

first_of_five : (a b c d e : Bool) → b ≡ true → c ≡ true → d ≡ true → e ≡ true → a && b && c && d && e ≡ a
first_of_five true b c d e p q r s = rw (p, q, r, s) refl
first_of_five false b c d e p q r s = refl

third : (a b c : Bool) → a ≡ true → b ≡ true → a && b && c ≡ c
third a b c p q = rw (p, q) refl

pub few_given : (block : List ℕ) → good_setup block ≡ true → assemblies_of block ≤ 16
unfolding good_setup
few_given block g = leb-true (assemblies_of block) 16 (all_at (tests_setup block) g 0)

module _ (block eds : List ℕ) (long : length block ≡ 192) (f : le 4 block 4 ≤ 1) (x : eds_fits (le 4 block 4) (length eds) ≡ true) (g : good_setup block ≡ true) where
  assemblies_given : (setup_given block eds).assemblies ≡ shapes_given block
  unfolding setup_given
  assemblies_given = refl

  assemblies_told : all (rows 5 shape_given (assemblies_of block) (drop shapes_at block)) ≡ true → assemblies_ok (setup_given block eds).assemblies ≡ distinct (instances_in (assemblies_of block) block)
  unfolding instances_in
  assemblies_told y =
      let xs : List Shape = shapes_given block in
      let n = length_rows shape_size dec_shape (assemblies_of block) (drop shapes_at block) in
      let h = few_given block g in
      ap assemblies_ok assemblies_given
      ∙ third (leb (length xs) 16) (not (any (λ a. not (shape_ok a)) xs)) (distinct (map (λ a. a.instance) xs))
      (le-leb (length xs) 16 (omega arith)) (shapes_split (assemblies_of block) (drop shapes_at block) y).1

  name_fits : (n k : ℕ) → n ≤ 32 → k + 32 ≤ 192 → name_ok (take n (drop k block)) ≡ true
  name_fits n k h q =
      let d = length-drop k block in
      let m = length-take-le n (drop k block) (omega arith) in
      le-leb (length (take n (drop k block))) 32 (omega arith)

  name_given : name_ok (setup_given block eds).identity.name ≡ true
  unfolding setup_given good_setup
  name_given =
      ap₂ (λ (n : ℕ) (z : List ℕ). name_ok (take n z)) (low_same block eds 2 (omega arith)) (rest_same block eds 46 (omega arith))
      ∙ name_fits (le 1 block 2) 46 (leb-true (le 1 block 2) 32 (all_at (tests_setup block) g 2)) (omega arith)

  eds_name_given : name_ok (setup_given block eds).eds_name ≡ true
  unfolding setup_given good_setup
  eds_name_given =
      ap₂ (λ (n : ℕ) (z : List ℕ). name_ok (take n z)) (low_same block eds 3 (omega arith)) (rest_same block eds 78 (omega arith))
      ∙ name_fits (le 1 block 3) 78 (leb-true (le 1 block 3) 32 (all_at (tests_setup block) g 3)) (omega arith)

  eds_given : eds_ok (setup_given block eds).eds ≡ true
  unfolding eds_fits
  eds_given =
      by_cases (eqb (le 4 block 4) 0)
      (λ e. ap eds_ok (no_eds block eds long e))
      (λ e. ap eds_ok (some_eds block eds long e) ∙ ap (λ (b : Bool). cond b (eqb (length eds) 0) (leb (length eds) 65535)) (sym e) ∙ x)

  bytes_given : not (eqb (le 4 block 4) 0) || eqb (length eds) 0 ≡ true
  unfolding eds_fits
  bytes_given =
      by_cases (eqb (le 4 block 4) 0)
      (λ e. ap (λ (b : Bool). not b || eqb (length eds) 0) e ∙ ap (λ (b : Bool). cond b (eqb (length eds) 0) (leb (length eds) 65535)) (sym e) ∙ x)
      (λ e. ap (λ (b : Bool). not b || eqb (length eds) 0) e)

  transfer_given : le 1 block 1 ≤ 255 → transfer_ok (setup_given block eds).transfer_limit ≡ true
  unfolding setup_given good_setup
  transfer_given h =
      let p = ltb-true 0 (le 1 block 1) (all_at (tests_setup block) g 1) in
      ap transfer_ok (low_same block eds 1 (omega arith))
      ∙ both (leb 1 (le 1 block 1)) (leb (le 1 block 1) 255) (le-leb 1 (le 1 block 1) (omega arith)) (le-leb (le 1 block 1) 255 (omega arith))

  pub given_once : (n : ℕ) → n ≡ assemblies_of block → get_or block 1 0 ≤ 255 → all (rows 5 shape_given n (drop shapes_at block)) ≡ true → distinct (instances_in n block) ≡ accepted block eds
  unfolding accepted setup_ok
  given_once n e t y =
      let u = setup_given block eds in
      let z : all (rows 5 shape_given (assemblies_of block) (drop shapes_at block)) ≡ true = ap (λ (k : ℕ). all (rows 5 shape_given k (drop shapes_at block))) (sym e) ∙ y in
      ap (λ (k : ℕ). distinct (instances_in k block)) e
      ∙ sym
      (last_of (eqb (length block) 192) (leb (le 4 block 4) 1) (not (eqb (le 4 block 4) 0) || eqb (length eds) 0)
      (all (rows 5 kind_given (assemblies_of block) (drop shapes_at block))) (setup_ok u)
      (eq-eqb (length block) 192 long) (le-leb (le 4 block 4) 1 f) bytes_given (shapes_split (assemblies_of block) (drop shapes_at block) z).0
      ∙ first_of_five (assemblies_ok u.assemblies) (name_ok u.identity.name) (name_ok u.eds_name) (eds_ok u.eds) (transfer_ok u.transfer_limit)
      name_given eds_name_given eds_given (transfer_given (let b = le_1 block 1 in omega arith))
      ∙ assemblies_told z)
