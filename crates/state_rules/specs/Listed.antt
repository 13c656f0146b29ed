-- What a function says of the first places, as a list.
use Prim.Native.Nat.{ℕ, zero, suc, ◌+◌, ◌≤◌, ◌<◌}
use Rattle.std.specs.Prelude.{List, [], ◌∷◌, ◌≡◌, length, drop, get_or}
use Rattle.std.proofs.Math.Path.{refl, ap}
use Rattle.std.proofs.Common.{sym, ◌∙◌, arith, add-one, drop_of_length-le, drop-cons}

module _ {A : Type 0} where
  unfoldable pub listed : (ℕ → A) → ℕ → List A
  listed f zero = []
  listed f (suc n) = f 0 ∷ listed (λ i. f (suc i)) n

  pub length_listed : (f : ℕ → A) (n : ℕ) → length (listed f n) ≡ n
  unfolding listed
  length_listed f zero = refl
  length_listed f (suc n) = ap suc (length_listed (λ i. f (suc i)) n)

  pub listed_at : (f : ℕ → A) (n i : ℕ) (d : A) → i < n → get_or (listed f n) i d ≡ f i
  unfolding listed
  listed_at f zero i d h = absurd (omega arith)
  listed_at f (suc n) zero d h = refl
  listed_at f (suc n) (suc i) d h = listed_at (λ j. f (suc j)) n i d (omega arith)

  -- from a place on, and past the last
  pub listed_rest : (f : ℕ → A) (n i : ℕ) → i < n → drop i (listed f n) ≡ f i ∷ drop (i + 1) (listed f n)
  listed_rest f n i h =
      drop-cons (listed f n) i (f 0) (let e = length_listed f n in omega arith)
      ∙ (λ j. listed_at f n i (f 0) h j ∷ drop (sym (add-one i) j) (listed f n))

  pub listed_end : (f : ℕ → A) (n i : ℕ) → n ≤ i → drop i (listed f n) ≡ []
  listed_end f n i h = drop_of_length-le (listed f n) {i = i} (let e = length_listed f n in omega arith)
