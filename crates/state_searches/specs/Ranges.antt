-- What `find` over a range of places answers, where its test is the rules' test of what stands at each place: the rules' place.
use Rattle.std.specs.Prelude.{ℕ, zero, suc, ◌+◌, ◌-◌, ◌*◌, ◌≤◌, ◌<◌, Bool, true, false, List, [], ◌∷◌, ◌≡◌, refl, length, get_or, take, drop, Option, Some, None}
use Rattle.std.proofs.Math.Bool.{cond}
use Rattle.std.proofs.Math.Path.{ap}
use Rattle.std.proofs.Common.{sym, subst, ◌∙◌, arith, length-drop, get_or-drop}
use Rattle.std.proofs.iter.Yields.{nat_range_steps}
use Rattle.std.proofs.lemmas.Iterator.{first_from_Range}
use Rattle.std.specs.Bool.{⊤}
use Rattle.std.specs.Fn.{CalledAt}
use Rattle.std.specs.Iterator.{YieldsThen}
use Rattle.std.specs.List.{FoldsTo}
use Rattle.std.specs.Option.{MatchOption}
use Rattle.std.specs.declared.ops.Range.{Range}
use denote.Param.Members.{Mut}
use denote.Ref.{Bor}
use Rattle.base_tables.specs.Tables.{rows, length_rows, row_at_lem}
use Rattle.rules.specs.Lists.{maybe, place}
use Rattle.state_searches.specs.Searches.{later, later_zero}

-- ---- the first of a list that passes: none before it does

module _ {A : Type 0} (p : A → Bool) (d : A) where
  first_is : (xs : List A) (j : ℕ) → j < length xs → p (get_or xs j d) ≡ true → ((k : ℕ) → k < j → p (get_or xs k d) ≡ false) → place p xs ≡ Some j
  first_is [] j h t f = absurd (omega arith)
  first_is (x ∷ xs) zero h t f = ap (λ (b : Bool). cond b (Some 0) (maybe None (λ j. Some (suc j)) (place p xs))) t
  first_is (x ∷ xs) (suc j) h t f =
      ap (λ (b : Bool). cond b (Some 0) (maybe None (λ j. Some (suc j)) (place p xs))) (f 0 (omega arith))
      ∙ ap (maybe None (λ j. Some (suc j))) (first_is xs j (omega arith) t (λ k q. f (suc k) (omega arith)))

  none_is : (xs : List A) → ((k : ℕ) → k < length xs → p (get_or xs k d) ≡ false) → place p xs ≡ None
  none_is [] f = refl
  none_is (x ∷ xs) f =
      ap (λ (b : Bool). cond b (Some 0) (maybe None (λ j. Some (suc j)) (place p xs))) (f 0 (omega arith))
      ∙ ap (maybe None (λ j. Some (suc j))) (none_is xs (λ k q. f (suc k) (omega arith)))

-- ---- from a place on: in a list of which each place is known

module _ {A : Type 0} (p : A → Bool) (d : A) (xs : List A) (at : ℕ → A) (n : ℕ) (en : length xs ≡ n) (ea : (k : ℕ) → k < n → get_or xs k d ≡ at k) where
  tested : (i k : ℕ) (b : Bool) → i + k < n → p (at (i + k)) ≡ b → p (get_or (drop i xs) k d) ≡ b
  tested i k b h e = ap p (get_or-drop i xs k d ∙ ea (i + k) h) ∙ e

  from : (i : ℕ) (o : Option ℕ)
      → MatchOption o ((k : ℕ) → i ≤ k → k < n → p (at k) ≡ false) (λ j. (i ≤ j) × (j < n) × (p (at j) ≡ true) × ((k : ℕ) → i ≤ k → k < j → p (at k) ≡ false))
      → o ≡ later i (place p (drop i xs))
  from i None h =
      ap (later i) (sym (none_is p d (drop i xs) (λ k q. let e = length-drop i xs in tested i k false (omega arith) (h (i + k) (omega arith) (omega arith)))))
  from i (Some j) h =
      let e = length-drop i xs in
      let before : (k : ℕ) → k < j - i → p (get_or (drop i xs) k d) ≡ false = λ k q. tested i k false (omega (arith, h.1)) (h.3 (i + k) (omega arith) (omega arith)) in
      let back : i + (j - i) ≡ j = omega (arith, h.0) in
      ap Some (sym back)
      ∙ ap (later i) (sym (first_is p d (drop i xs) (j - i) (omega (arith, h.0, h.1)) (tested i (j - i) true (omega (arith, h.0, h.1)) (ap (λ (k : ℕ). p (at k)) back ∙ h.2)) before))

  -- what `find` from a start answers
  pub found_from : {F : Type 0} {g : Mut F (Bor ℕ × Unit {0}) Bool} (s u : Range ℕ) (f : F) (o : Option ℕ)
      → (vs : List ℕ) × (j : F) × YieldsThen nat_range_steps s vs o u × FoldsTo (λ x v y. CalledAt g x v false y) f vs j × MatchOption o ⊤ (λ v. (y : F) × CalledAt g j v true y)
      → s.end ≡ n → ((v : ℕ) (b : Bool) (y : F) → CalledAt g f v b y → (y ≡ f) × (b ≡ p (at v))) → o ≡ later s.start (place p (drop s.start xs))
  found_from {F} {g} s u f o ran es calls =
      let h = first_from_Range {g = g} s u f o (λ k. p (at k) ≡ true) (λ k. p (at k) ≡ false) ran
      (λ v y c. sym (calls v true y c).1) (λ v y c. ((calls v false y c).0, sym (calls v false y c).1)) in
      from s.start o
      (subst (λ (m : ℕ). MatchOption o ((k : ℕ) → s.start ≤ k → k < m → p (at k) ≡ false) (λ j. (s.start ≤ j) × (j < m) × (p (at j) ≡ true) × ((k : ℕ) → s.start ≤ k → k < j → p (at k) ≡ false))) es h)

  -- and from the first on
  pub found : {F : Type 0} {g : Mut F (Bor ℕ × Unit {0}) Bool} (u : Range ℕ) (f : F) (o : Option ℕ)
      → (vs : List ℕ) × (j : F) × YieldsThen nat_range_steps (record { start = 0; end = n }) vs o u × FoldsTo (λ x v y. CalledAt g x v false y) f vs j × MatchOption o ⊤ (λ v. (y : F) × CalledAt g j v true y)
      → ((v : ℕ) (b : Bool) (y : F) → CalledAt g f v b y → (y ≡ f) × (b ≡ p (at v))) → o ≡ place p xs
  found {F} {g} u f o ran calls = found_from {g = g} (record { start = 0; end = n }) u f o ran refl calls ∙ later_zero (place p xs)

-- ---- the same along rows

module _ {A : Type 0} (size : ℕ) (dec : List ℕ → A) (p : A → Bool) (n : ℕ) (r : List ℕ) where
  pub row_found_from : {F : Type 0} {g : Mut F (Bor ℕ × Unit {0}) Bool} (s u : Range ℕ) (f : F) (o : Option ℕ)
      → (vs : List ℕ) × (j : F) × YieldsThen nat_range_steps s vs o u × FoldsTo (λ x v y. CalledAt g x v false y) f vs j × MatchOption o ⊤ (λ v. (y : F) × CalledAt g j v true y)
      → s.end ≡ n → ((v : ℕ) (b : Bool) (y : F) → CalledAt g f v b y → (y ≡ f) × (b ≡ p (dec (take size (drop (v * size) r))))) → o ≡ later s.start (place p (drop s.start (rows size dec n r)))
  row_found_from s u f o ran es calls =
      found_from p (dec []) (rows size dec n r) (λ k. dec (take size (drop (k * size) r))) n (length_rows size dec n r) (λ k h. row_at_lem size dec n r k (dec []) h) s u f o ran es calls

  pub row_found : {F : Type 0} {g : Mut F (Bor ℕ × Unit {0}) Bool} (u : Range ℕ) (f : F) (o : Option ℕ)
      → (vs : List ℕ) × (j : F) × YieldsThen nat_range_steps (record { start = 0; end = n }) vs o u × FoldsTo (λ x v y. CalledAt g x v false y) f vs j × MatchOption o ⊤ (λ v. (y : F) × CalledAt g j v true y)
      → ((v : ℕ) (b : Bool) (y : F) → CalledAt g f v b y → (y ≡ f) × (b ≡ p (dec (take size (drop (v * size) r))))) → o ≡ place p (rows size dec n r)
  row_found u f o ran calls =
      found p (dec []) (rows size dec n r) (λ k. dec (take size (drop (k * size) r))) n (length_rows size dec n r) (λ k h. row_at_lem size dec n r k (dec []) h) u f o ran calls
