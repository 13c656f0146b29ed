-- The block's assemblies in the state's columns: what is read there is what was given, and nothing else has changed.
use Prim.Native.Nat.{ℕ, zero, suc, ◌+◌, ◌*◌, ◌-◌, ◌≤◌, ◌<◌}
use mathlib.Core.List.{List, ◌∷◌, ◌++◌}
use Rattle.std.specs.Prelude.{◌≡◌, ltb, take, drop}
use Rattle.std.proofs.Math.Path.{refl, ap, sym}
use Rattle.std.proofs.Common.{ap₂, ◌∙◌, suc-mul, zero-mul, add_comm, add-one, drop-drop}
use native.Mathlib.Omega.{arith}
use Rattle.std.proofs.Math.ListN.{length}
use borrow.Author.Tests.{ltb-true, ltb-false}
use Rattle.base_cells.specs.Numbers.{le, put, le_bytes, length_le_bytes, length_put, take_put, le_put_same, le_put_before, le_put_after, sets_left}
use Rattle.base_tables.specs.Tables.{rows}
use Rattle.base_tables.specs.Ring.{by_cases}
use Rattle.state_rules.specs.Places.{instances_at, sizes_at, kinds_at}
use Rattle.state_rules.specs.Listed.{listed}
use Rattle.state_rules.specs.Setups.{kind_named, shape_in}
use Rattle.app_starting.specs.Block.{shapes_at, shape_size, dec_shape, given_in, in_columns, spread}
use Rattle.app_starting.specs.Shapes.{shape_number}

-- ---- one assembly

module _ (block : List ℕ) (n : ℕ) (r : List ℕ) where
  abbrev once : List ℕ
  once = put 2 r (instances_at + n * 2) (le 2 block (n * 5 + 110))

  abbrev twice : List ℕ
  twice = put 2 once (sizes_at + n * 2) (le 2 block (n * 5 + 112))

  length_twice : length (put 2 (put 2 r (instances_at + n * 2) (le 2 block (n * 5 + 110))) (sizes_at + n * 2) (le 2 block (n * 5 + 112))) ≡ length r
  length_twice = length_put 2 once (sizes_at + n * 2) (le 2 block (n * 5 + 112)) ∙ length_put 2 r (instances_at + n * 2) (le 2 block (n * 5 + 110))

  pub length_one : length (in_columns block n r) ≡ length r
  length_one = length_put 1 twice (kinds_at + n) (le 1 block (n * 5 + 114)) ∙ length_twice

  take_one : take shapes_at (in_columns block n r) ≡ take shapes_at r
  take_one =
      take_put 1 twice (kinds_at + n) (le 1 block (n * 5 + 114)) shapes_at (omega arith)
      ∙ take_put 2 once (sizes_at + n * 2) (le 2 block (n * 5 + 112)) shapes_at (omega arith)
      ∙ take_put 2 r (instances_at + n * 2) (le 2 block (n * 5 + 110)) shapes_at (omega arith)

  -- its own place
  one_same : n < 16 → 190 ≤ length r → shape_in (in_columns block n r) n ≡ given_in block n
  unfolding shape_in dec_shape
  one_same h g =
      let v : ℕ = le 2 block (n * 5 + 110) in let w : ℕ = le 2 block (n * 5 + 112) in let x : ℕ = le 1 block (n * 5 + 114) in
      let l₁ : length once ≡ length r = length_put 2 r (instances_at + n * 2) v in
      let l₂ : length twice ≡ length r = length_twice in
      λ j.
      record {
        instance =
            (le_put_before 2 1 twice (instances_at + n * 2) (kinds_at + n) x (omega arith) ∙ le_put_before 2 2 once (instances_at + n * 2) (sizes_at + n * 2) w (omega arith)
            ∙ le_put_same 1 r (instances_at + n * 2) v (omega arith) ∙ sym (shape_number 2 0 block n (omega arith))) j;
        kind = kind_named ((le_put_same 0 twice (kinds_at + n) x (omega arith) ∙ sym (shape_number 1 4 block n (omega arith))) j);
        size =
            (le_put_before 2 1 twice (sizes_at + n * 2) (kinds_at + n) x (omega arith) ∙ le_put_same 1 once (sizes_at + n * 2) w (omega arith)
            ∙ sym (shape_number 2 2 block n (omega arith))) j;
      }

  -- a place before it, and the size at a place behind it
  one_before : (i : ℕ) → i < n → n < 16 → shape_in (in_columns block n r) i ≡ shape_in r i
  unfolding shape_in
  one_before i h g =
      let v : ℕ = le 2 block (n * 5 + 110) in let w : ℕ = le 2 block (n * 5 + 112) in let x : ℕ = le 1 block (n * 5 + 114) in
      λ j.
      record {
        instance =
            (le_put_before 2 1 twice (instances_at + i * 2) (kinds_at + n) x (omega arith) ∙ le_put_before 2 2 once (instances_at + i * 2) (sizes_at + n * 2) w (omega arith)
            ∙ le_put_before 2 2 r (instances_at + i * 2) (instances_at + n * 2) v (omega arith)) j;
        kind =
            kind_named ((le_put_before 1 1 twice (kinds_at + i) (kinds_at + n) x (omega arith) ∙ le_put_after 1 2 once (kinds_at + i) (sizes_at + n * 2) w (omega arith)
            ∙ le_put_after 1 2 r (kinds_at + i) (instances_at + n * 2) v (omega arith)) j);
        size =
            (le_put_before 2 1 twice (sizes_at + i * 2) (kinds_at + n) x (omega arith) ∙ le_put_before 2 2 once (sizes_at + i * 2) (sizes_at + n * 2) w (omega arith)
            ∙ le_put_after 2 2 r (sizes_at + i * 2) (instances_at + n * 2) v (omega arith)) j;
      }

  size_behind : (i : ℕ) → n < i → i < 16 → (shape_in (in_columns block n r) i).size ≡ (shape_in r i).size
  unfolding shape_in
  size_behind i h g =
      le_put_before 2 1 twice (sizes_at + i * 2) (kinds_at + n) (le 1 block (n * 5 + 114)) (omega arith)
      ∙ le_put_after 2 2 once (sizes_at + i * 2) (sizes_at + n * 2) (le 2 block (n * 5 + 112)) (omega arith)
      ∙ le_put_after 2 2 r (sizes_at + i * 2) (instances_at + n * 2) (le 2 block (n * 5 + 110)) (omega arith)

-- as code does it: three numbers read, then written
pub columned : (block : List ℕ) (i : ℕ) (s s₁ s₂ s₃ : List ℕ) (v w x : ℕ) → v ≡ le 2 block (i * 5 + 110) → w ≡ le 2 block (i * 5 + 112) → x ≡ le 1 block (i * 5 + 114)
    → s₁ ≡ put 2 s (instances_at + i * 2) v → s₂ ≡ put 2 s₁ (sizes_at + i * 2) w → s₃ ≡ put 1 s₂ (kinds_at + i) x → s₃ ≡ in_columns block i s
columned block i s s₁ s₂ s₃ v w x ev ew ex e₁ e₂ e₃ =
    e₃ ∙ ap₂ (λ (z : List ℕ) (k : ℕ). put 1 z (kinds_at + i) k) (e₂ ∙ ap₂ (λ (z : List ℕ) (k : ℕ). put 2 z (sizes_at + i * 2) k) (e₁ ∙ ap (put 2 s (instances_at + i * 2)) ev) ew) ex

-- ---- the first n

module _ (block : List ℕ) where
  pub spread_none : (r : List ℕ) → r ≡ spread block 0 r
  unfolding spread
  spread_none r = refl

  pub spread_more : (n : ℕ) (r s : List ℕ) → s ≡ spread block n r → in_columns block n s ≡ spread block (n + 1) r
  unfolding spread
  spread_more n r s e = ap (in_columns block n) e ∙ ap (λ (k : ℕ). spread block k r) (sym (add-one n))

  pub length_spread : (n : ℕ) (r : List ℕ) → length (spread block n r) ≡ length r
  unfolding spread
  length_spread zero r = refl
  length_spread (suc n) r = length_one block n (spread block n r) ∙ length_spread n r

  pub take_spread : (n : ℕ) (r : List ℕ) → take shapes_at (spread block n r) ≡ take shapes_at r
  unfolding spread
  take_spread zero r = refl
  take_spread (suc n) r = take_one block n (spread block n r) ∙ take_spread n r

  pub spread_at : (n : ℕ) (r : List ℕ) → n ≤ 16 → 190 ≤ length r → (i : ℕ) → i < n → shape_in (spread block n r) i ≡ given_in block i
  unfolding spread
  spread_at zero r h g i p = absurd (omega arith)
  spread_at (suc n) r h g i p =
      let s : List ℕ = spread block n r in
      let l = length_spread n r in
      by_cases (ltb i n)
      (λ t. let q = ltb-true i n t in one_before block n s i q (omega arith) ∙ spread_at n r (omega arith) g i q)
      (λ t. let q = ltb-false i n t in
      let e : i ≡ n = omega arith in
      ap (λ (k : ℕ). shape_in (in_columns block n s) k) e ∙ one_same block n s (omega arith) (omega arith) ∙ ap (λ (k : ℕ). given_in block k) (sym e))

  pub size_past : (n : ℕ) (r : List ℕ) (i : ℕ) → n ≤ i → i < 16 → (shape_in (spread block n r) i).size ≡ (shape_in r i).size
  unfolding spread
  size_past zero r i h g = refl
  size_past (suc n) r i h g = size_behind block n (spread block n r) i (omega arith) g ∙ size_past n r i (omega arith) g

-- rows, place by place
listed_rows : {A : Type 0} (size : ℕ) (dec : List ℕ → A) (f : ℕ → A) (n : ℕ) (x : List ℕ) → ((i : ℕ) → i < n → f i ≡ dec (take size (drop (i * size) x)))
    → listed f n ≡ rows size dec n x
unfolding listed rows
listed_rows size dec f zero x h = refl
listed_rows {A} size dec f (suc n) x h =
    let first : f 0 ≡ dec (take size x) = h 0 (omega arith) ∙ ap (λ (k : ℕ). dec (take size (drop k x))) (zero-mul size) in
    ap₂ ◌∷◌ first
    (listed_rows size dec (λ i. f (suc i)) n (drop size x)
    (λ i g. h (suc i) (omega arith) ∙ ap (λ (z : List ℕ). dec (take size z)) (ap (λ (k : ℕ). drop k x) (suc-mul i size ∙ add_comm (i * size) size) ∙ sym (drop-drop (i * size) size x))))

pub shapes_spread : (block : List ℕ) (n : ℕ) (r : List ℕ) → n ≤ 16 → 190 ≤ length r → listed (shape_in (spread block n r)) n ≡ rows shape_size dec_shape n (drop shapes_at block)
shapes_spread block n r h g = listed_rows shape_size dec_shape (shape_in (spread block n r)) n (drop shapes_at block) (λ i p. spread_at block n r h g i p)

-- ---- in a buffer that goes on behind

pub put_left : (k : ℕ) (xs ys : List ℕ) (at v : ℕ) → at + k ≤ length xs → put k (xs ++ ys) at v ≡ put k xs at v ++ ys
unfolding put
put_left k xs ys at v h = sets_left xs ys at (le_bytes k v) (let e = length_le_bytes k v in omega arith)

one_left : (block : List ℕ) (n : ℕ) (xs ys : List ℕ) → n < 16 → 190 ≤ length xs → in_columns block n (xs ++ ys) ≡ in_columns block n xs ++ ys
one_left block n xs ys h g =
    let v : ℕ = le 2 block (n * 5 + 110) in let w : ℕ = le 2 block (n * 5 + 112) in let x : ℕ = le 1 block (n * 5 + 114) in
    let a : List ℕ = put 2 xs (instances_at + n * 2) v in
    let b : List ℕ = put 2 a (sizes_at + n * 2) w in
    let la : length a ≡ length xs = length_put 2 xs (instances_at + n * 2) v in
    let lb : length b ≡ length xs = length_twice block n xs in
    ap (λ (z : List ℕ). put 1 (put 2 z (sizes_at + n * 2) w) (kinds_at + n) x) (put_left 2 xs ys (instances_at + n * 2) v (omega arith))
    ∙ ap (λ (z : List ℕ). put 1 z (kinds_at + n) x) (put_left 2 a ys (sizes_at + n * 2) w (omega arith))
    ∙ put_left 1 b ys (kinds_at + n) x (omega arith)

pub spread_left : (block : List ℕ) (n : ℕ) (xs ys : List ℕ) → n ≤ 16 → 190 ≤ length xs → spread block n (xs ++ ys) ≡ spread block n xs ++ ys
unfolding spread
spread_left block zero xs ys h g = refl
spread_left block (suc n) xs ys h g =
    let l = length_spread block n xs in
    ap (in_columns block n) (spread_left block n xs ys (omega arith) g) ∙ one_left block n (spread block n xs) ys (omega arith) (omega arith)
