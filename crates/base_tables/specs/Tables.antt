-- A table of records of size bytes each, from the start of a list of bytes. What stands past the rows is no one's concern here.
use Prim.Native.Nat.{ℕ, zero, suc, ◌+◌, ◌*◌, ◌≤◌, ◌<◌}
use Rattle.std.specs.Prelude.{List, [], ◌∷◌, ◌≡◌, length, take, drop, get_or}
use Rattle.std.proofs.Math.Path.{refl, ap}
use Rattle.std.proofs.Common.{sym, ◌∙◌, arith, add-one, drop_of_length-le, drop-drop, drop-cons}
use Rattle.std.proofs.Math.Nat.{suc-mul, zero-mul, add_comm}

module _ {A : Type 0} where
  -- a list without the element at i
  unfoldable pub without : List A → ℕ → List A
  without [] i = []
  without (a ∷ xs) zero = xs
  without (a ∷ xs) (suc i) = a ∷ without xs i

module _ {A : Type 0} (size : ℕ) (dec : List ℕ → A) where
  unfoldable pub rows : ℕ → List ℕ → List A
  rows zero l = []
  rows (suc n) l = dec (take size l) ∷ rows n (drop size l)

  pub length_rows : (n : ℕ) (l : List ℕ) → length (rows n l) ≡ n
  unfolding rows
  length_rows zero l = refl
  length_rows (suc n) l = ap suc (length_rows n (drop size l))

  pub row_at_lem : (n : ℕ) (l : List ℕ) (i : ℕ) (d : A) → i < n → get_or (rows n l) i d ≡ dec (take size (drop (i * size) l))
  unfolding rows
  row_at_lem zero l i d h = elim h [ ]
  row_at_lem (suc n) l zero d h = rw zero-mul
  row_at_lem (suc n) l (suc i) d h = row_at_lem n (drop size l) i d (omega arith) ∙ rw (drop-drop, suc-mul, add_comm size (i * size))

  -- the rows from a place on, and past the last
  pub rows_rest : (n : ℕ) (l : List ℕ) (i : ℕ) → i < n → drop i (rows n l) ≡ dec (take size (drop (i * size) l)) ∷ drop (i + 1) (rows n l)
  rows_rest n l i h =
      drop-cons (rows n l) i (dec []) (let e = length_rows n l in omega arith)
      ∙ (λ j. row_at_lem n l i (dec []) h j ∷ drop (sym (add-one i) j) (rows n l))

  pub rows_end : (n : ℕ) (l : List ℕ) (i : ℕ) → n ≤ i → drop i (rows n l) ≡ []
  rows_end n l i h = drop_of_length-le (rows n l) {i = i} (let e = length_rows n l in omega arith)
