-- A list of records written over the rows of a region. Bytes behind the rows stay, and rows that fell free are zero.
use Prim.Native.Nat.{ℕ, zero, suc, ◌+◌, ◌*◌, ◌-◌, ◌≤◌, ◌<◌}
use mathlib.Core.List.{List, [], ◌∷◌, ◌++◌}
use Rattle.std.specs.Prelude.{◌≡◌, drop, set, get_or, replicate}
use Rattle.std.proofs.Math.Path.{refl, ap, ap₂}
use Rattle.std.proofs.Common.{sym, ◌∙◌, arith, take_at}
use Rattle.std.proofs.Math.Nat.{suc-mul, zero-mul, add_comm}
use Rattle.std.proofs.Math.ListN.{length, take, length-append, length-drop, length-replicate, take-append-drop}
use Rattle.std.proofs.Math.Seq.{sets, drop_at, drop-drop}
use Rattle.base_cells.specs.Numbers.{sets_left, take_sets, drop_sets_add}
use Rattle.base_tables.specs.Tables.{rows}

-- a run of stores in the second of two lists
pub sets_right : (xs ys : List ℕ) (n : ℕ) → length xs ≡ n → (j : ℕ) (bs : List ℕ) → sets (xs ++ ys) (n + j) bs ≡ xs ++ sets ys j bs
sets_right xs ys n e j bs =
    sym (take-append-drop n (sets (xs ++ ys) (n + j) bs))
    ∙ ap₂ ◌++◌ (take_sets n (xs ++ ys) (n + j) bs (omega arith) ∙ take_at xs ys n e)
    (drop_sets_add n (xs ++ ys) j bs ∙ ap (λ (z : List ℕ). sets z j bs) (drop_at xs ys n e))

abbrev pub less : ℕ → ℕ
less zero = zero
less (suc n) = n

module _ {A : Type 0} (size : ℕ) (enc : A → List ℕ) where
  -- the records xs over a region of which n rows were in use
  unfoldable pub store_rows : ℕ → List A → List ℕ → List ℕ
  store_rows zero [] r = r
  store_rows (suc n) [] r = replicate size 0 ++ store_rows n [] (drop size r)
  store_rows n (x ∷ xs) r = enc x ++ store_rows (less n) xs (drop size r)

  module _ (dec : List ℕ → A) where
    -- the region's own rows over it: nothing changes
    pub store_rows_lem : (n : ℕ) (r : List ℕ) → ((i : ℕ) → i < n → enc (dec (take size (drop (i * size) r))) ≡ take size (drop (i * size) r))
        → store_rows n (rows size dec n r) r ≡ r
    unfolding store_rows rows
    store_rows_lem zero r h = refl
    store_rows_lem (suc n) r h =
        let a : enc (dec (take size r)) ≡ take size r = rw zero-mul at (h 0 (omega arith)) in
        let b : (i : ℕ) → i < n → enc (dec (take size (drop (i * size) (drop size r)))) ≡ take size (drop (i * size) (drop size r)) =
        λ i g. rw (drop-drop (i * size) size r, add_comm size (i * size), ← suc-mul i size) (h (suc i) (omega arith)) in
        ap₂ ◌++◌ a (store_rows_lem n (drop size r) b) ∙ take-append-drop size r

  module _ (whole : (x : A) → length (enc x) ≡ size) where
    pub length_store_rows : (n : ℕ) (xs : List A) (r : List ℕ) → n * size ≤ length r → length xs * size ≤ length r
        → length (store_rows n xs r) ≡ length r
    unfolding store_rows
    length_store_rows zero [] r h g = refl
    length_store_rows (suc n) [] r h g =
        let h' : n * size + size ≤ length r = rw suc-mul at h in
        let l' : length (drop size r) ≡ length r - size = length-drop size r in
        let ih = length_store_rows n [] (drop size r) (omega arith) (omega (arith, zero-mul size)) in
        length-append (replicate size 0) (store_rows n [] (drop size r)) ∙ omega (arith, length-replicate {A = ℕ} size 0)
    length_store_rows zero (x ∷ xs) r h g =
        let g' : length xs * size + size ≤ length r = rw suc-mul at g in
        let l' : length (drop size r) ≡ length r - size = length-drop size r in
        let ih = length_store_rows 0 xs (drop size r) (omega (arith, zero-mul size)) (omega arith) in
        length-append (enc x) (store_rows 0 xs (drop size r)) ∙ omega (arith, whole x)
    length_store_rows (suc n) (x ∷ xs) r h g =
        let h' : n * size + size ≤ length r = rw suc-mul at h in
        let g' : length xs * size + size ≤ length r = rw suc-mul at g in
        let l' : length (drop size r) ≡ length r - size = length-drop size r in
        let ih = length_store_rows n xs (drop size r) (omega arith) (omega arith) in
        length-append (enc x) (store_rows n xs (drop size r)) ∙ omega (arith, whole x)

    -- the bytes of row i
    pub row_stored : (n : ℕ) (xs : List A) (r : List ℕ) (i : ℕ) (d : A) → i < length xs
        → take size (drop (i * size) (store_rows n xs r)) ≡ enc (get_or xs i d)
    unfolding store_rows
    row_stored n [] r i d h = elim h [ ]
    row_stored n (x ∷ xs) r zero d h = rw zero-mul (take_at (enc x) (store_rows (less n) xs (drop size r)) size (whole x))
    row_stored n (x ∷ xs) r (suc i) d h =
        rw (suc-mul, add_comm (i * size) size, ← drop-drop (i * size) size, drop_at (enc x) (store_rows (less n) xs (drop size r)) size (whole x))
        (row_stored (less n) xs (drop size r) i d (omega arith))

    -- what is stored is read back
    pub rows_stored : (dec : List ℕ → A) → ((x : A) → dec (enc x) ≡ x) → (n : ℕ) (xs : List A) (r : List ℕ)
        → rows size dec (length xs) (store_rows n xs r) ≡ xs
    unfolding store_rows rows
    rows_stored dec de n [] r = refl
    rows_stored dec de n (x ∷ xs) r =
        let s : List ℕ = store_rows (less n) xs (drop size r) in
        ap₂ ◌∷◌ (ap dec (take_at (enc x) s size (whole x)) ∙ de x)
        (ap (rows size dec (length xs)) (drop_at (enc x) s size (whole x)) ∙ rows_stored dec de (less n) xs (drop size r))

    -- a run of stores inside row i, which make of its bytes those of y
    pub store_rows_set : (n : ℕ) (xs : List A) (r : List ℕ) (i off : ℕ) (bs : List ℕ) (y d : A) → i < length xs → off + length bs ≤ size
        → enc y ≡ sets (enc (get_or xs i d)) off bs
        → sets (store_rows n xs r) (i * size + off) bs ≡ store_rows n (set xs i y) r
    unfolding store_rows
    store_rows_set n [] r i off bs y d h f e = elim h [ ]
    store_rows_set n (x ∷ xs) r zero off bs y d h f e =
        let s : List ℕ = store_rows (less n) xs (drop size r) in
        ap (λ (k : ℕ). sets (enc x ++ s) k bs) (omega (arith, zero-mul size))
        ∙ sets_left (enc x) s off bs (omega (arith, whole x))
        ∙ ap (λ (z : List ℕ). z ++ s) (sym e)
    store_rows_set n (x ∷ xs) r (suc i) off bs y d h f e =
        let s : List ℕ = store_rows (less n) xs (drop size r) in
        ap (λ (k : ℕ). sets (enc x ++ s) k bs) (let m = suc-mul i size in omega arith)
        ∙ sets_right (enc x) s size (whole x) (i * size + off) bs
        ∙ ap (λ (z : List ℕ). enc x ++ z) (store_rows_set (less n) xs (drop size r) i off bs y d (omega arith) f e)
