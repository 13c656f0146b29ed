-- One row more, and one row less: what code does to the bytes is the store of the longer or the shorter list.
use Prim.Native.Nat.{ℕ, zero, suc, ◌+◌, ◌*◌, ◌-◌, ◌≤◌, ◌<◌}
use mathlib.Core.List.{List, [], ◌∷◌, ◌++◌, append_assoc}
use Rattle.std.specs.Prelude.{◌≡◌, replicate}
use Rattle.std.proofs.Math.Path.{ap, ap₂, sym}
use Rattle.std.proofs.Common.{◌∙◌}
use native.Mathlib.Omega.{arith}
use Rattle.std.proofs.Math.Nat.{zero-mul, suc-mul}
use Rattle.std.proofs.Math.ListN.{length, take, drop, length-drop, length-replicate}
use Rattle.std.proofs.Math.Seq.{sets, sets-eq, take-append-add, drop-append-add}
use Rattle.base_cells.specs.Numbers.{sets_left}
use Rattle.base_tables.specs.Tables.{without}
use Rattle.base_tables.specs.Store.{store_rows, less, sets_right}
use Rattle.base_tables.specs.Slots.{sets_whole}

module _ {A : Type 0} (size : ℕ) (enc : A → List ℕ) (whole : (x : A) → length (enc x) ≡ size) where
  zeros : List ℕ
  zeros = replicate size 0

  -- a row behind the last
  pub store_rows_push : (n : ℕ) (xs : List A) (y : A) (r : List ℕ) → length xs * size + size ≤ length r
      → sets (store_rows size enc n xs r) (length xs * size) (enc y) ≡ store_rows size enc n (xs ++ (y ∷ [])) r
  unfolding store_rows
  store_rows_push zero [] y r h =
      let w = whole y in
      ap (λ (k : ℕ). sets r k (enc y)) (zero-mul size)
      ∙ sets-eq (enc y) r 0 (let z = zero-mul size in omega arith)
      ∙ ap (λ (k : ℕ). enc y ++ drop k r) (let q : 0 + length (enc y) ≡ size = omega arith in q)
  store_rows_push (suc n) [] y r h =
      let s : List ℕ = store_rows size enc n [] (drop size r) in
      let z : length {A = ℕ} (replicate size 0) ≡ size = length-replicate {A = ℕ} size 0 in
      let w = whole y in
      ap (λ (k : ℕ). sets (replicate size 0 ++ s) k (enc y)) (zero-mul size)
      ∙ sets_left (replicate size 0) s 0 (enc y) (omega arith)
      ∙ ap (λ (x : List ℕ). x ++ s) (sets_whole (replicate size 0) (enc y) (omega arith))
  store_rows_push n (x ∷ xs) y r h =
      let s : List ℕ = store_rows size enc (less n) xs (drop size r) in
      let h' : length xs * size + size + size ≤ length r = rw suc-mul at h in
      let l' : length (drop size r) ≡ length r - size = length-drop size r in
      ap (λ (k : ℕ). sets (enc x ++ s) k (enc y)) (let q = suc-mul (length xs) size in let q' : suc (length xs) * size ≡ size + length xs * size = omega arith in q')
      ∙ sets_right (enc x) s size (whole x) (length xs * size) (enc y)
      ∙ ap (λ (z : List ℕ). enc x ++ z) (store_rows_push (less n) xs y (drop size r) (omega arith))

  -- in a list that begins with one row: what lies k rows further
  over : (k : ℕ) (x : A) (s : List ℕ) → (take (suc k * size) (enc x ++ s) ≡ enc x ++ take (k * size) s) × (drop (suc k * size) (enc x ++ s) ≡ drop (k * size) s)
  over k x s =
      let e : suc k * size ≡ length (enc x) + k * size = let q = suc-mul k size in let w = whole x in omega arith in
      (ap (λ (n : ℕ). take n (enc x ++ s)) e ∙ take-append-add (enc x) s (k * size), ap (λ (n : ℕ). drop n (enc x ++ s)) e ∙ drop-append-add (enc x) s (k * size))

  -- one row fewer than were in use: a row of zeros behind the last
  spare : (m : ℕ) (xs : List A) (r : List ℕ) → length xs ≤ m
      → store_rows size enc (suc m) xs r
      ≡ take (length xs * size) (store_rows size enc m xs (drop size r)) ++ (replicate size 0 ++ drop (length xs * size) (store_rows size enc m xs (drop size r)))
  unfolding store_rows
  spare m [] r h = rw zero-mul
  spare zero (y ∷ ys) r h = absurd (omega arith)
  spare (suc m) (y ∷ ys) r h =
      let t : List ℕ = store_rows size enc m ys (drop size (drop size r)) in
      let o = over (length ys) y t in
      ap (λ (z : List ℕ). enc y ++ z) (spare m ys (drop size r) (omega arith))
      ∙ sym (append_assoc (enc y) (take (length ys * size) t) (replicate size 0 ++ drop (length ys * size) t))
      ∙ ap₂ (λ (a b : List ℕ). a ++ (replicate size 0 ++ b)) (sym o.0) (sym o.1)

  -- row i gone: the rows behind it move down, and the last row's place is zero
  unfoldable pub cut_row : ℕ → ℕ → List ℕ → List ℕ
  cut_row n i s = take (i * size) s ++ (take ((n - 1 - i) * size) (drop (suc i * size) s) ++ (replicate size 0 ++ drop (n * size) s))

  pub store_rows_cut : (n : ℕ) (xs : List A) (r : List ℕ) (i : ℕ) → i < length xs → length xs ≤ n
      → cut_row (length xs) i (store_rows size enc n xs r) ≡ store_rows size enc n (without xs i) r
  unfolding store_rows cut_row without
  store_rows_cut zero [] r i p h = elim p [ ]
  store_rows_cut (suc n) [] r i p h = elim p [ ]
  store_rows_cut zero (x ∷ xs) r i p h = absurd (omega arith)
  store_rows_cut (suc n) (x ∷ xs) r zero p h =
      let s : List ℕ = store_rows size enc n xs (drop size r) in
      let a : take (0 * size) (enc x ++ s) ≡ [] = rw zero-mul in
      let b : drop (1 * size) (enc x ++ s) ≡ s = (over 0 x s).1 ∙ rw zero-mul in
      let k : suc (length xs) - 1 - 0 ≡ length xs = omega arith in
      (λ j. a j ++ (take (k j * size) (b j) ++ (replicate size 0 ++ (over (length xs) x s).1 j)))
      ∙ sym (spare n xs r (omega arith))
  store_rows_cut (suc n) (x ∷ xs) r (suc i) p h =
      let s : List ℕ = store_rows size enc n xs (drop size r) in
      let k : suc (length xs) - 1 - suc i ≡ length xs - 1 - i = omega arith in
      (λ j. (over i x s).0 j ++ (take (k j * size) ((over (suc i) x s).1 j) ++ (replicate size 0 ++ (over (length xs) x s).1 j)))
      ∙ append_assoc (enc x) (take (i * size) s) (take ((length xs - 1 - i) * size) (drop (suc i * size) s) ++ (replicate size 0 ++ drop (length xs * size) s))
      ∙ ap (λ (z : List ℕ). enc x ++ z) (store_rows_cut n xs (drop size r) i (omega arith) (omega arith))
