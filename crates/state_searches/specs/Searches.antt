-- The first that passes a test: found row by row as code looks for it, and what the rules' words for it then come to.
use Rattle.std.specs.Prelude.{ℕ, zero, suc, ◌+◌, ◌*◌, ◌≤◌, ◌<◌, Bool, true, false, ◌||◌, ◌≡◌, refl, length, get_or, set, take, drop, Option, Some, None}
use Rattle.std.proofs.Math.Bool.{cond}
use mathlib.Core.List.{List, [], ◌∷◌}
use Rattle.std.proofs.Math.Path.{ap}
use Rattle.std.proofs.Common.{◌∙◌, arith}
use Rattle.base_tables.specs.Tables.{rows, without, rows_rest, rows_end}
use Rattle.rules.specs.Lists.{maybe, find, place, any, change_first, without_first, change_at}

-- a place that was found k further on
abbrev pub later : ℕ → Option ℕ → Option ℕ
later k None = None
later k (Some j) = Some (k + j)

later_suc : (k : ℕ) (o : Option ℕ) → later k (maybe None (λ i. Some (suc i)) o) ≡ later (k + 1) o
later_suc k None = refl
later_suc k (Some j) = ap Some (omega arith)

pub later_zero : (o : Option ℕ) → later 0 o ≡ o
later_zero None = refl
later_zero (Some j) = ap Some (omega arith)

-- ---- a search along a list: the place in the rest, so many further on

module _ {A : Type 0} (p : A → Bool) (xs : List A) (i : ℕ) where
  at_one : (x : A) (b : Bool) → drop i xs ≡ x ∷ drop (i + 1) xs → p x ≡ b
      → later i (place p (drop i xs)) ≡ later i (cond b (Some 0) (maybe None (λ j. Some (suc j)) (place p (drop (i + 1) xs))))
  at_one x b h e =
      ap (λ (z : List A). later i (place p z)) h
      ∙ ap (λ (y : Bool). later i (cond y (Some 0) (maybe None (λ j. Some (suc j)) (place p (drop (i + 1) xs))))) e

  pub list_hit : (x : A) → drop i xs ≡ x ∷ drop (i + 1) xs → p x ≡ true → later i (place p (drop i xs)) ≡ Some i
  list_hit x h e = at_one x true h e ∙ ap Some (omega arith)

  pub list_miss : (x : A) → drop i xs ≡ x ∷ drop (i + 1) xs → p x ≡ false → later i (place p (drop i xs)) ≡ later (i + 1) (place p (drop (i + 1) xs))
  list_miss x h e = at_one x false h e ∙ later_suc i (place p (drop (i + 1) xs))

  pub list_ends : drop i xs ≡ [] → later i (place p (drop i xs)) ≡ None
  list_ends h = ap (λ (z : List A). later i (place p z)) h

-- ---- the same along rows

module _ {A : Type 0} (size : ℕ) (dec : List ℕ → A) (p : A → Bool) (n : ℕ) (r : List ℕ) where
  pub search_hit : (i : ℕ) → i < n → p (dec (take size (drop (i * size) r))) ≡ true → later i (place p (drop i (rows size dec n r))) ≡ Some i
  search_hit i h e = list_hit p (rows size dec n r) i (dec (take size (drop (i * size) r))) (rows_rest size dec n r i h) e

  pub search_miss : (i : ℕ) → i < n → p (dec (take size (drop (i * size) r))) ≡ false
      → later i (place p (drop i (rows size dec n r))) ≡ later (i + 1) (place p (drop (i + 1) (rows size dec n r)))
  search_miss i h e = list_miss p (rows size dec n r) i (dec (take size (drop (i * size) r))) (rows_rest size dec n r i h) e

  pub search_ends : (i : ℕ) → n ≤ i → later i (place p (drop i (rows size dec n r))) ≡ None
  search_ends i h = list_ends p (rows size dec n r) i (rows_end size dec n r i h)

-- ---- whether any row passes, and the first that does

module _ {A : Type 0} (size : ℕ) (dec : List ℕ → A) (p : A → Bool) (n : ℕ) (r : List ℕ) where
  any_row : (i : ℕ) → i < n → (b : Bool) → p (dec (take size (drop (i * size) r))) ≡ b
      → any p (drop i (rows size dec n r)) ≡ (b || any p (drop (i + 1) (rows size dec n r)))
  any_row i h b e = ap (any p) (rows_rest size dec n r i h) ∙ ap (λ (x : Bool). x || any p (drop (i + 1) (rows size dec n r))) e

  pub any_hit : (i : ℕ) → i < n → p (dec (take size (drop (i * size) r))) ≡ true → any p (drop i (rows size dec n r)) ≡ true
  any_hit i h e = any_row i h true e

  pub any_miss : (i : ℕ) → i < n → p (dec (take size (drop (i * size) r))) ≡ false
      → any p (drop i (rows size dec n r)) ≡ any p (drop (i + 1) (rows size dec n r))
  any_miss i h e = any_row i h false e

  pub any_ends : (i : ℕ) → n ≤ i → any p (drop i (rows size dec n r)) ≡ false
  any_ends i h = ap (any p) (rows_end size dec n r i h)

  find_row : (i : ℕ) → i < n → (b : Bool) → p (dec (take size (drop (i * size) r))) ≡ b
      → find p (drop i (rows size dec n r)) ≡ cond b (Some (dec (take size (drop (i * size) r)))) (find p (drop (i + 1) (rows size dec n r)))
  find_row i h b e =
      ap (find p) (rows_rest size dec n r i h) ∙ ap (λ (x : Bool). cond x (Some (dec (take size (drop (i * size) r)))) (find p (drop (i + 1) (rows size dec n r)))) e

  pub find_hit : (i : ℕ) → i < n → p (dec (take size (drop (i * size) r))) ≡ true → find p (drop i (rows size dec n r)) ≡ Some (dec (take size (drop (i * size) r)))
  find_hit i h e = find_row i h true e

  pub find_miss : (i : ℕ) → i < n → p (dec (take size (drop (i * size) r))) ≡ false
      → find p (drop i (rows size dec n r)) ≡ find p (drop (i + 1) (rows size dec n r))
  find_miss i h e = find_row i h false e

  pub find_ends : (i : ℕ) → n ≤ i → find p (drop i (rows size dec n r)) ≡ None
  find_ends i h = ap (find p) (rows_end size dec n r i h)

-- ---- where the place is known

-- the first of a list passes, or the place is one further on in the rest
data Found (b : Bool) (o : Option ℕ) : ℕ → Type 0 where
  here : b ≡ true → Found b o 0
  there : {j : ℕ} → b ≡ false → o ≡ Some j → Found b o (suc j)

some_is : (i j : ℕ) → ◌≡◌ {A = Option ℕ} (Some i) (Some j) → i ≡ j
some_is i j e = cc

none_not : {P : Type 0} (i : ℕ) → ◌≡◌ {A = Option ℕ} None (Some i) → P
none_not i e = absurd (let z : ◌≡◌ {A = ℕ} 0 1 = cc in omega arith)

found : (b : Bool) (o : Option ℕ) (i : ℕ) → cond b (Some 0) (maybe None (λ j. Some (suc j)) o) ≡ Some i → Found b o i
found true o zero e = here refl
found true o (suc i) e = let z = some_is 0 (suc i) e in absurd (omega arith)
found false None i e = none_not i e
found false (Some j) zero e = let z = some_is (suc j) 0 e in absurd (omega arith)
found false (Some j) (suc i) e = let z = some_is (suc j) (suc i) e in let y : j ≡ i = omega arith in there {j = i} refl (ap Some y)

split_place : (P : ℕ → Type 0) (b : Bool) (o : Option ℕ) (i : ℕ) → Found b o i → (b ≡ true → P 0) → ((j : ℕ) → b ≡ false → o ≡ Some j → P (suc j)) → P i
split_place P b o i (here h) t f = t h
split_place P b o i (there {j} h q) t f = f j h q

module _ {A : Type 0} (p : A → Bool) (d : A) where
  -- what holds of the first where it passes, and of one further on in the rest, holds at the place found
  at_place : (P : ℕ → Type 0) (x : A) (xs : List A) (i : ℕ) → place p (x ∷ xs) ≡ Some i
      → (p x ≡ true → P 0) → ((j : ℕ) → p x ≡ false → place p xs ≡ Some j → P (suc j)) → P i
  at_place P x xs i e t f = split_place P (p x) (place p xs) i (found (p x) (place p xs) i e) t f

  pub place_in_lem : (xs : List A) (i : ℕ) → place p xs ≡ Some i → i < length xs
  place_in_lem [] i e = none_not i e
  place_in_lem (x ∷ xs) i e =
      at_place (λ (k : ℕ). k < suc (length xs)) x xs i e (λ h. omega arith) (λ j h q. let z = place_in_lem xs j q in omega arith)

  pub place_passes : (xs : List A) (i : ℕ) → place p xs ≡ Some i → p (get_or xs i d) ≡ true
  place_passes [] i e = none_not i e
  place_passes (x ∷ xs) i e = at_place (λ (k : ℕ). p (get_or (x ∷ xs) k d) ≡ true) x xs i e (λ h. h) (λ j h q. place_passes xs j q)

  pub find_at : (xs : List A) (i : ℕ) → place p xs ≡ Some i → find p xs ≡ Some (get_or xs i d)
  find_at [] i e = none_not i e
  find_at (x ∷ xs) i e =
      at_place (λ (k : ℕ). find p (x ∷ xs) ≡ Some (get_or (x ∷ xs) k d)) x xs i e
      (λ h. ap (λ (b : Bool). cond b (Some x) (find p xs)) h)
      (λ j h q. ap (λ (b : Bool). cond b (Some x) (find p xs)) h ∙ find_at xs j q)

  pub change_at_lem : (u : A → A) (xs : List A) (i : ℕ) → place p xs ≡ Some i → change_first p u xs ≡ set xs i (u (get_or xs i d))
  change_at_lem u [] i e = none_not i e
  change_at_lem u (x ∷ xs) i e =
      at_place (λ (k : ℕ). change_first p u (x ∷ xs) ≡ set (x ∷ xs) k (u (get_or (x ∷ xs) k d))) x xs i e
      (λ h. ap (λ (b : Bool). cond b (u x ∷ xs) (x ∷ change_first p u xs)) h)
      (λ j h q. ap (λ (b : Bool). cond b (u x ∷ xs) (x ∷ change_first p u xs)) h ∙ ap (λ (z : List A). x ∷ z) (change_at_lem u xs j q))

  pub without_at : (xs : List A) (i : ℕ) → place p xs ≡ Some i → without_first p xs ≡ without xs i
  unfolding without
  without_at [] i e = none_not i e
  without_at (x ∷ xs) i e =
      at_place (λ (k : ℕ). without_first p (x ∷ xs) ≡ without (x ∷ xs) k) x xs i e
      (λ h. ap (λ (b : Bool). cond b xs (x ∷ without_first p xs)) h)
      (λ j h q. ap (λ (b : Bool). cond b xs (x ∷ without_first p xs)) h ∙ ap (λ (z : List A). x ∷ z) (without_at xs j q))

pub change_at_place : {A : Type 0} (u : A → A) (d : A) (xs : List A) (i : ℕ) → change_at i u xs ≡ set xs i (u (get_or xs i d))
change_at_place u d [] i = refl
change_at_place u d (x ∷ xs) zero = refl
change_at_place u d (x ∷ xs) (suc i) = ap (λ z. x ∷ z) (change_at_place u d xs i)
