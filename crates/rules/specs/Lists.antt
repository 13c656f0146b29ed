-- Lists under Boolean tests: the few words that the rules are written in.
use Rattle.std.specs.Prelude.{List, [], ◌∷◌, ◌++◌, Bool, true, false, cond, ◌&&◌, ◌||◌, ℕ, zero, suc, eqb, Option, Some, None}

-- of what may be absent
abbrev pub maybe : {A B : Type 0} → B → (A → B) → Option A → B
maybe d f None = d
maybe d f (Some a) = f a

abbrev pub is_some : {A : Type 0} → Option A → Bool
is_some None = false
is_some (Some a) = true

-- the value if a test holds
abbrev pub only : {A : Type 0} → Bool → Option A → Option A
only true a = a
only false a = None

module _ {A : Type 0} where
  -- the first that passes the test
  abbrev pub find : (A → Bool) → List A → Option A
  find p [] = None
  find p (x ∷ xs) = cond (p x) (Some x) (find p xs)

  -- the place of the first that passes the test
  abbrev pub place : (A → Bool) → List A → Option ℕ
  place p [] = None
  place p (x ∷ xs) = cond (p x) (Some 0) (maybe None (λ i. Some (suc i)) (place p xs))

  abbrev pub any : (A → Bool) → List A → Bool
  any p [] = false
  any p (x ∷ xs) = p x || any p xs

  -- those that pass the test, in order
  abbrev pub keep : (A → Bool) → List A → List A
  keep p [] = []
  keep p (x ∷ xs) = cond (p x) (x ∷ keep p xs) (keep p xs)

  -- the list with the first that passes the test changed
  abbrev pub change_first : (A → Bool) → (A → A) → List A → List A
  change_first p u [] = []
  change_first p u (x ∷ xs) = cond (p x) (u x ∷ xs) (x ∷ change_first p u xs)

  -- the list without the first that passes the test
  abbrev pub without_first : (A → Bool) → List A → List A
  without_first p [] = []
  without_first p (x ∷ xs) = cond (p x) xs (x ∷ without_first p xs)

  -- the list with the one at a place changed
  abbrev pub change_at : ℕ → (A → A) → List A → List A
  change_at i u [] = []
  change_at zero u (x ∷ xs) = u x ∷ xs
  change_at (suc i) u (x ∷ xs) = x ∷ change_at i u xs

  -- the bytes of each, one behind the other
  abbrev pub joined : {B : Type 0} → (A → List B) → List A → List B
  joined f [] = []
  joined f (x ∷ xs) = f x ++ joined f xs

-- two lists of bytes are the same
abbrev pub same : List ℕ → List ℕ → Bool
same [] [] = true
same [] (y ∷ ys) = false
same (x ∷ xs) [] = false
same (x ∷ xs) (y ∷ ys) = eqb x y && same xs ys

abbrev pub repeat : {A : Type 0} → ℕ → (A → A) → A → A
repeat zero f a = a
repeat (suc n) f a = repeat n f (f a)
